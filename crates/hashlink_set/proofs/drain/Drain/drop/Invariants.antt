use Rattle.std.proofs.Common.{length}
use Rattle.hashlink_core.specs.Drained.{CanDrain, state_with}
use Rattle.hashlink_map.proofs.Taking.{Kept}
use Rattle.hashlink_set.specs.Drain.{drained_set}
use Rattle.hashlink_set.proofs.drain.Drain.drop.Given as goal

abbrev pub invariant-loop-pair : goal.invariant-loop-pair
invariant-loop-pair g l = record {
  fits : CanDrain l.self.0.now (length l.left);
  kept : Kept (drained_set l.fn.self).now (state_with l.self.0.now l.left);
}

abbrev pub decreases-loop-pair : goal.decreases-loop-pair
decreases-loop-pair g l = length l.left
