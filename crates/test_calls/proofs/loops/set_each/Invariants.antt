use Rattle.std.proofs.Common.{◌≡◌}
use Rattle.hashlink.specs.{IterMut.{walk_map, walk_state}, Keyed.state_of, WritingWalk.WritesSoFar}
use Rattle.test_calls.proofs.loops.set_each.Given as goal

-- the entries before the ones left have been written
abbrev pub invariant-loop-old : goal.invariant-loop-old
invariant-loop-old l =
    ((walk_map l.values).ghost_name ≡ (walk_map l.initial.values).ghost_name)
    × WritesSoFar (λ e. l.fn.value) (state_of l.fn.pairs) (walk_state l.values)

abbrev pub decreases-loop-old : goal.decreases-loop-old
decreases-loop-old l = (walk_state l.values).left
