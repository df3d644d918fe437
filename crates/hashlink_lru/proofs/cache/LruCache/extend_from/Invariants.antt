-- The items returned so far were inserted.
use Rattle.std.proofs.iter.Next as it
use Rattle.hashlink_lru.proofs.cache.LruCache.extend_from.Given as goal
use Rattle.std.{proofs.Common.{◌≡◌, ◌-◌, ◌^◌, length, min}, specs.Iterator.{EndsFrom, items_left}}
use Rattle.hashlink_model.specs.Many.{AcceptsAll}
use Rattle.hashlink_lru.specs.Cached.{state_of, InsertsPairIn}

abbrev pub invariant-loop-key : goal.invariant-loop-key
invariant-loop-key g l =
    it.Ran g.I.Iterator.can_next (EndsFrom g.I.Iterator.remaining) (items_left g.I.Iterator.remaining)
    g.I.Iterator.next_gives
    (λ xs. AcceptsAll (InsertsPairIn g.K.PartialEq.eq) (state_of l.fn.self) xs (state_of l.self)
    × (l.taken ≡ min (length xs) (2 ^ 64 - 1)))
    l.fn.iter l.iter

abbrev pub decreases-loop-key : goal.decreases-loop-key
decreases-loop-key g l = items_left g.I.Iterator.remaining l.iter
