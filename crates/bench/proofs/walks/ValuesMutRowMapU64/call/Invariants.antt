use Rattle.hashlink.specs.IterMut.{walk_state}
use Rattle.bench.proofs.walks.ValuesMutRowMapU64.call.Given as goal

abbrev pub decreases-loop-value : goal.decreases-loop-value
decreases-loop-value l = (walk_state l.walk).left
