use Rattle.std.proofs.Common.{◌≡◌, length}
use Rattle.hashlink_core.specs.Drained.{CanDrain, state_with}
use Rattle.hashlink_map.proofs.Taking.{Kept}
use Rattle.hashlink_map.specs.Drain.{drained_state}
use Rattle.hashlink_map.proofs.drain.DrainOf.drop.Given as goal

abbrev pub invariant-loop-pair : goal.invariant-loop-pair
invariant-loop-pair g l = record {
  fits : CanDrain (g.C.Drainable.map_state l.self.0.now) (length l.left);
  kept : Kept (drained_state l.fn.self) (state_with (g.C.Drainable.map_state l.self.0.now) l.left);
  same : g.C.Drainable.rest l.self.0.now ≡ g.C.Drainable.rest l.fn.self.container.now;
}

abbrev pub decreases-loop-pair : goal.decreases-loop-pair
decreases-loop-pair g l = length l.left
