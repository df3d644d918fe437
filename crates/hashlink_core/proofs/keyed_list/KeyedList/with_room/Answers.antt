use Rattle.std.proofs.Common.{length, ap, arith}
use Rattle.hashlink_core.proofs.Stepping.{step-none}
use Rattle.hashlink_core.proofs.keyed_list.KeyedList.with_room.Goals as goal

pub invariant_of-result : goal.invariant_of-result
invariant_of-result g c =
    step-none g.met.K.Eq.laws c.new.result c.in_ok-table.table (ap (λ r. r.entries) c.new.ensures)
    c.in_ok-table.ensures.empty (omega (arith, ap (λ r. length r.free) c.new.ensures))
