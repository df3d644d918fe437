use Rattle.std.proofs.Common.{length}
use Rattle.hashlink_curve.proofs.marks.+sum_before.Given as goal

abbrev pub decreases-sum_before : goal.decreases-sum_before
decreases-sum_before l = length l.rows.now
