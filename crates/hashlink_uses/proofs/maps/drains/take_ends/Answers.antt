use Rattle.std.proofs.Common.{refl}
use Rattle.hashlink_uses.proofs.maps.drains.take_ends.Goals as goal

pub loop-2-init : goal.loop-2-init
loop-2-init g c = (refl, c.loop.invariant.1)
