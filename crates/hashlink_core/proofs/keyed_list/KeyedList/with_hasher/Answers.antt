use Rattle.std.proofs.Common.{length, ap, arith}
use Rattle.hashlink_core.proofs.Stepping.{step-none}
use Rattle.hashlink_core.proofs.keyed_list.KeyedList.with_hasher.Goals as goal

pub invariant_of-result : goal.invariant_of-result
invariant_of-result g c =
    step-none g.met.K.Eq.laws c.new.result c.new-2.result (ap (λ r. r.entries) c.new.ensures)
    (ap (λ t. t.nodes) c.new-2.ensures) (omega (arith, ap (λ r. length r.free) c.new.ensures))
