use Rattle.hashlink_nodes.proofs.StateLemmas.{dropped}
use Rattle.hashlink_nodes.proofs.pool.Pool.vacate.Goals as goal

pub returns : goal.returns
returns g c =
    dropped c.args.self.now.arena.blocks c.release.new.self.blocks c.args.self.now.writes.count c.args.node
    c.requires.has c.release.ensures
