use Rattle.hashlink_map.proofs.raw_entry.RawEntryMut.and_modify.Goals as goal

pub f-requires : goal.f-requires
f-requires g c = c.requires _ _ (rw c.in-Occupied.is c.get_key_value_mut-value.ensures.pair)

pub returns-in-Occupied-clause-modifies : goal.returns-in-Occupied-clause-modifies
returns-in-Occupied-clause-modifies g c =
    let lent = c.get_key_value_mut-value in
    rw c.in-Occupied.is
    (lent.result.0, lent.result.1, _, lent.ensures.pair, c.f.ensures, lent.ensures.written c.f.new.arg3)
