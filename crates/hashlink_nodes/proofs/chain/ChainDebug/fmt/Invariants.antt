use Rattle.hashlink_nodes.proofs.{Names.{◌-◌, state_of}, Chains.Left}
use Rattle.hashlink_nodes.proofs.chain.ChainDebug.fmt.Given as goal

abbrev pub invariant-loop : goal.invariant-loop
invariant-loop g l = Left (state_of l.self-inside.pool) l.node (l.end - l.counter)
