use Rattle.hashlink_map.proofs.Names.{refl}
use Rattle.hashlink_map.proofs.entry.Entry.and_modify.Goals as goal

pub returns-in-Occupied-clause-modifies : goal.returns-in-Occupied-clause-modifies
returns-in-Occupied-clause-modifies g c =
    let w = c.f.new.arg2 in
    rw c.in-Occupied.is (
      _,
      w,
      c.get_mut.ensures.value,
      record { shown = c.get_mut.result; shows = refl; left = _; met = c.f.ensures; leaves = refl },
      c.get_mut.ensures.written w,
    )
