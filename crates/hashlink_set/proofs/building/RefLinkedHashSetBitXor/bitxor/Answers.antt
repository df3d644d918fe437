use Rattle.hashlink_set.specs.Walks.{symmetric_difference_rest, SymmetricDifferenceSteps}
use Rattle.hashlink_set.proofs.OfClones.{clones_by_answer}
use Rattle.hashlink_set.proofs.building.RefLinkedHashSetBitXor.bitxor.Goals as goal

pub returns : goal.returns
returns g c =
    let eq = g.T.PartialEq.eq in let walk = c.symmetric_difference in
    clones_by_answer (SymmetricDifferenceSteps eq) (symmetric_difference_rest eq) (λ s r t step. step.takes)
    eq g.met.T.Eq.laws g.T.Clone.is_clone g.S.Default.is_default _ c.default.result c.default.ensures
    walk.result walk.ensures.rest walk.ensures.unique c.of_clones.result c.of_clones.ensures.made
    c.of_clones.ensures.refused
