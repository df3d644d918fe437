use Rattle.std.proofs.Common.{length}
use Rattle.hashlink_curve.proofs.marks.+change.Given as goal

abbrev pub decreases-change : goal.decreases-change
decreases-change l = length l.rows.now
