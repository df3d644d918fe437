use Rattle.hashlink_nodes.proofs.{Names.arith, Chains.{all_left_at, passes}}
use Rattle.hashlink_nodes.proofs.chain.ChainDebug.fmt.Goals as goal

pub loop-init : goal.loop-init
loop-init g c = all_left_at c.self.invariant (omega arith)

pub pair-requires : goal.pair-requires
pair-requires g c = (passes c.loop.invariant (omega arith)).holds

pub next-node-requires : goal.next-node-requires
next-node-requires g c = (passes c.loop.invariant (omega arith)).has

pub loop-preserved : goal.loop-preserved
loop-preserved g c = (passes c.loop.invariant (omega arith)).after c.next-node.ensures (omega arith)
