use Rattle.hashlink_curve.proofs.{Names.{◌≡◌, ◌≤◌, ◌^◌, replicate, rows_of}, Sums.OpenRows}
use Rattle.hashlink_curve.proofs.marks.Marks.with_places.Given as goal

abbrev pub invariant-loop-width : goal.invariant-loop-width
invariant-loop-width l =
    OpenRows l.row.items (rows_of l.sums.items) l.width × (l.row.items ≡ replicate l.places 0)
    × (l.places ≤ 2 ^ 60)

abbrev pub decreases-loop-width : goal.decreases-loop-width
decreases-loop-width l = l.width
