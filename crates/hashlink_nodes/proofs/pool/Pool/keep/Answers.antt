use Rattle.hashlink_nodes.proofs.StateLemmas.{added}
use Rattle.hashlink_nodes.proofs.pool.Pool.keep.Goals as goal

pub returns : goal.returns
returns g c =
    added c.args.self.now.arena.blocks c.args.self.now.writes.count c.keep.result c.nowhere.result
    c.keep.ensures.kept c.keep.ensures.apart
