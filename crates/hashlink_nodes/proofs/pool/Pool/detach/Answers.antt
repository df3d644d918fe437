use Rattle.hashlink_nodes.specs.State.{detached}
use Rattle.hashlink_nodes.proofs.pool.Pool.detach.Goals as goal

pub returns : goal.returns
unfolding detached
returns g c = cc
