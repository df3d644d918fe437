-- The state of a ring's blocks.
use Rattle.hashlink_nodes.specs.{declared.pool.Pool.Pool, State.State, State.state}

abbrev pub state_of : {K V : Type 0} → Pool K V → State K V
state_of c = state c.arena.blocks c.writes.count
