use Rattle.std.proofs.{Common.{length, ap, arith}, lemmas.List.Sorted.IsPermutation-refl}
use Rattle.hashlink_core.proofs.Stepping.{step-same}
use Rattle.hashlink_core.proofs.keyed_list.KeyedList.release_free.Goals as goal

pub invariant_of-self : goal.invariant_of-self
invariant_of-self g c =
    let f = c.release_free in
    let t = c.self.inside.table in
    let same = IsPermutation-refl t.nodes in
    step-same g.met.K.Eq.laws c.self.inside.nodes f.new.self t t f.ensures.entries same
    (omega (arith, c.self.invariant.fits, ap length f.ensures.free)) c.self.invariant
