-- The elements returned so far were inserted.
use Rattle.hashlink_set.proofs.Names.{◌≡◌, ◌-◌, ◌^◌, length, EndsFrom, items_left, AcceptsAll, SetInserts}
use Rattle.std.proofs.Common.{min}
use Rattle.std.proofs.iter.Next as it
use Rattle.hashlink_set.proofs.set.LinkedHashSet.extend_from.Given as goal

abbrev pub invariant-loop-element : goal.invariant-loop-element
invariant-loop-element g l =
    it.Ran g.I.Iterator.can_next (EndsFrom g.I.Iterator.remaining) (items_left g.I.Iterator.remaining)
    g.I.Iterator.next_gives (λ xs. AcceptsAll (SetInserts g.T.PartialEq.eq) l.fn.self xs l.self
    × (l.taken ≡ min (length xs) (2 ^ 64 - 1)))
    l.fn.iter l.iter

abbrev pub decreases-loop-element : goal.decreases-loop-element
decreases-loop-element g l = items_left g.I.Iterator.remaining l.iter
