use Rattle.hashlink_core.specs.Keyed.{entries_of}
use Rattle.hashlink_lru.proofs.{Dropping.pops_keeps, Updating.evicts-some}
use Rattle.hashlink_lru.proofs.cache.LruCache.make_room.Goals as goal

pub returns-then-len-self-clause-updates : goal.returns-then-len-self-clause-updates
returns-then-len-self-clause-updates g c =
    evicts-some g.K.PartialEq.eq g.met.K.Eq.laws 1 (entries_of c.args.self.now.map)
    (entries_of c.pop_front.new.self) c.len.ensures.distinct
    (pops_keeps _ _ _ c.pop_front.ensures.pops).entries
