-- Clones of the items returned so far were inserted in order.
use Rattle.hashlink_set.proofs.Names.{List, map, EndsFrom, items_left, AllZip, deref, AcceptsAll, SetInserts}
use Rattle.std.proofs.iter.Next as it
use Rattle.hashlink_set.proofs.building.of_clones.Given as goal

abbrev pub invariant-loop-element : goal.invariant-loop-element
invariant-loop-element g l =
    it.Ran g.I.Iterator.can_next (EndsFrom g.I.Iterator.remaining) (items_left g.I.Iterator.remaining)
    g.I.Iterator.next_gives (λ xs. (ys : List g.row.T.Denot) × AllZip g.T.Clone.is_clone (map deref xs) ys
    × AcceptsAll (SetInserts g.T.PartialEq.eq) l.initial.set ys l.set)
    l.initial.rest l.rest

abbrev pub decreases-loop-element : goal.decreases-loop-element
decreases-loop-element g l = items_left g.I.Iterator.remaining l.rest
