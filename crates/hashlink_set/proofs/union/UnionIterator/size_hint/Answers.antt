use Rattle.hashlink_set.proofs.Names.{true, ◌≡◌, ◌≤◌, length, sym, subst, rules, IfSome, at_most, UpTo}
use Rattle.hashlink_set.proofs.Names.{at_most_both, left_to_give-at_most, elements_in, lacks, union_rest}
use Rattle.hashlink_set.{specs.Walks.union_walk, proofs.Looking.bounds_both}
use Rattle.hashlink_model.proofs.LazyWalks.{union-at_least}
use Rattle.hashlink_set.proofs.union.UnionIterator.size_hint.Goals as goal

pub returns-clause-lower : goal.returns-clause-lower
returns-clause-lower g c =
    let u = c.args.self.now in
    λ _. subst (λ n. n ≤ length (union_rest g.T.PartialEq.eq u)) (sym c.len-left.ensures.value)
    (union-at_least _ (union_walk u))

pub returns-clause-upper : goal.returns-clause-upper
returns-clause-upper g c =
    let eq = g.T.PartialEq.eq in let u = c.args.self.now in
    let sum : c.checked_add.result ≡ at_most_both (length u.first) (length u.second.iter) = search rules in
    subst (λ o. IfSome o (UpTo (at_most (length (union_rest g.T.PartialEq.eq u))))) (sym sum)
    (bounds_both (length (union_rest eq u)) (length u.first) (length u.second.iter)
    (left_to_give-at_most (λ _. true) (lacks eq (elements_in u.second.other.now)) (union_walk u)))
