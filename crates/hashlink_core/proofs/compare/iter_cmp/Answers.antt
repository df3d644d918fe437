-- A short search is enough here. It also ends soon if an edit breaks the comparison.
use Rattle.std.proofs.Common.{rules}
use Rattle.hashlink_core.proofs.compare.iter_cmp.Goals as goal

pub returns-in_default-order : goal.returns-in_default-order
returns-in_default-order g c = search rules
