use Rattle.std.proofs.Common.{◌≡◌}
use Rattle.hashlink.specs.{IterMut.{walk_map, walk_state}, Keyed.state_of, WritingWalk.WritesSoFar}
use Rattle.test_calls.proofs.loops.copy_keys.Given as goal

-- the entries before the ones left have been written
abbrev pub invariant-loop-key : goal.invariant-loop-key
invariant-loop-key l =
    ((walk_map l.walk).ghost_name ≡ (walk_map l.initial.walk).ghost_name)
    × WritesSoFar (λ e. e.0) (state_of l.fn.pairs) (walk_state l.walk)

abbrev pub decreases-loop-key : goal.decreases-loop-key
decreases-loop-key l = (walk_state l.walk).left
