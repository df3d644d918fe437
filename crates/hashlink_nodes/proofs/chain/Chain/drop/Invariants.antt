use Rattle.std.proofs.Common.{length}
use Rattle.hashlink_nodes.proofs.chain.Chain.drop.Given as goal

abbrev pub decreases-loop-pair : goal.decreases-loop-pair
decreases-loop-pair g l = length l.self
