-- The items read so far are inserted.
use Rattle.hashlink_core.proofs.Names.{◌≡◌, ◌-◌, ◌^◌, length, min, AcceptsAll, InsertsPair, state_of}
use Rattle.std.specs.Iterator.{EndsFrom, items_left}
use Rattle.std.proofs.iter.Next as it
use Rattle.hashlink_map.proofs.map.LinkedHashMap.extend_from.Given as goal

abbrev pub invariant-loop-key : goal.invariant-loop-key
invariant-loop-key g l =
    it.Ran g.I.Iterator.can_next (EndsFrom g.I.Iterator.remaining) (items_left g.I.Iterator.remaining)
    g.I.Iterator.next_gives
    (λ xs. AcceptsAll (InsertsPair g.K.PartialEq.eq) (state_of l.fn.self) xs (state_of l.self)
    × (l.taken ≡ min (length xs) (2 ^ 64 - 1)))
    l.fn.iter l.iter

abbrev pub decreases-loop-key : goal.decreases-loop-key
decreases-loop-key g l = items_left g.I.Iterator.remaining l.iter
