use Rattle.hashlink_curve.{proofs.Names.{◌≡◌, ◌-◌, length, sum, falls_from}, specs.Curve.Falling}
use Rattle.hashlink_curve.proofs.falls.FallsIterator.next.Given as goal

abbrev pub invariant-loop-count : goal.invariant-loop-count
invariant-loop-count l =
    Falling l.self-inside.reuses.now l.self-inside.capacity l.self-inside.misses
    × (falls_from (l.self-inside.misses - sum l.self-inside.reuses.now) l.self-inside.capacity
    l.self-inside.reuses.now
    ≡ falls_from (l.initial.self-inside.misses - sum l.initial.self-inside.reuses.now)
    l.initial.self-inside.capacity
    l.initial.self-inside.reuses.now)

abbrev pub decreases-loop-count : goal.decreases-loop-count
decreases-loop-count l = length l.self-inside.reuses.now
