use Rattle.hashlink_model.proofs.Members.{difference_members, intersection_members, nil_has_none}
use Rattle.hashlink_model.proofs.{Names.{arith, difference_of, intersection_of}}
use Rattle.hashlink_model.proofs.algebra.subset_and_disjoint_by_membership.Goals as goal

pub returns-clause-subset : goal.returns-clause-subset
returns-clause-subset g c eq laws xs ys s q m =
    grind (arith, difference_members eq laws xs ys q, nil_has_none eq laws (difference_of eq xs ys) s q)

pub returns-clause-disjoint : goal.returns-clause-disjoint
returns-clause-disjoint g c eq laws xs ys s q m =
    grind (arith, intersection_members eq laws xs ys q, nil_has_none eq laws (intersection_of eq xs ys) s q)
