-- A short search is enough here. It also ends soon if an edit breaks the comparison.
use Rattle.std.proofs.Common.{rules}
use Rattle.hashlink_core.proofs.compare.iter_eq.Goals as goal

pub returns-then-ne : goal.returns-then-ne
returns-then-ne g c = search rules

pub loop-pair-preserved : goal.loop-pair-preserved
loop-pair-preserved g c = search rules
