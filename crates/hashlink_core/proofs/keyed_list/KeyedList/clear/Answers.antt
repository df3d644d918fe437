use Rattle.std.proofs.Common.{length, ap, arith}
use Rattle.hashlink_core.proofs.Stepping.{step-none}
use Rattle.hashlink_core.proofs.keyed_list.KeyedList.clear.Goals as goal

pub invariant_of-self : goal.invariant_of-self
invariant_of-self g c =
    let r = c.release_all.ensures in
    step-none g.met.K.Eq.laws c.release_all.new.self c.clear.new.self r.entries
    (ap (λ t. t.nodes) c.clear.ensures)
    (omega (arith, c.self.invariant.fits, ap length r.free, ap (λ t. t.room) c.clear.ensures))
