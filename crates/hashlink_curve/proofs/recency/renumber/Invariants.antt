use Rattle.hashlink_curve.proofs.{Names.{◌≡◌, ◌≤◌, ◌+◌, ◌*◌, ◌^◌, length, entries_of}, Placing.Renumbers}
use Rattle.hashlink_map.specs.IterMut.{walk_map, walk_state}
use Rattle.hashlink_curve.proofs.recency.renumber.Given as goal

abbrev pub invariant-loop-value : goal.invariant-loop-value
invariant-loop-value g l =
    ((walk_map l.values).ghost_name ≡ (walk_map l.initial.values).ghost_name)
    × Renumbers (entries_of l.fn.places) (walk_state l.values) l.marks l.place
    × (l.place + (walk_state l.values).left ≡ l.count)
    × (16 * (l.count + 1) ≡ length l.marks) × (l.count ≤ 2 ^ 55)

abbrev pub decreases-loop-value : goal.decreases-loop-value
decreases-loop-value g l = (walk_state l.values).left
