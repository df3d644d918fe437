use Rattle.hashlink_set.proofs.Names.{◌≡◌, length, sym, subst, rules, IfSome, at_most, UpTo, at_most_both}
use Rattle.hashlink_set.proofs.Names.{left_to_give-at_most, elements_in, lacks, symmetric_difference_rest}
use Rattle.hashlink_set.{specs.Walks.symmetric_difference_walk, proofs.Looking.bounds_both}
use Rattle.hashlink_set.proofs.symmetric_difference.SymmetricDifferenceIterator.size_hint.Goals
    as goal

pub returns-clause-upper : goal.returns-clause-upper
returns-clause-upper g c =
    let eq = g.T.PartialEq.eq in let d = c.args.self.now in
    let sum : c.checked_add.result ≡ at_most_both (length d.first.iter) (length d.second.iter) =
    search rules in
    subst (λ o. IfSome o (UpTo (at_most (length (symmetric_difference_rest g.T.PartialEq.eq d))))) (sym sum)
    (bounds_both (length (symmetric_difference_rest eq d)) (length d.first.iter) (length d.second.iter)
    (left_to_give-at_most (lacks eq (elements_in d.first.other.now))
    (lacks eq (elements_in d.second.other.now)) (symmetric_difference_walk d)))
