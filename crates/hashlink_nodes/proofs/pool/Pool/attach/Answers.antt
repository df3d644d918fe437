use Rattle.hashlink_nodes.specs.State.{attached}
use Rattle.hashlink_nodes.proofs.pool.Pool.attach.Goals as goal

pub returns : goal.returns
unfolding attached
returns g c = cc
