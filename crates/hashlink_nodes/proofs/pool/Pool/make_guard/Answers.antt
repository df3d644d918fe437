use Rattle.hashlink_nodes.proofs.{Names.{refl, state_of}, StateLemmas.{links_at, looped}}
use Rattle.hashlink_nodes.proofs.pool.Pool.make_guard.Goals as goal

pub links_mut-links-requires : goal.links_mut-links-requires
links_mut-links-requires g c = c.in_ok-guard.ensures.made.there

pub returns-clause-made : goal.returns-clause-made
returns-clause-made g c =
    let bs = c.make.new.self.arena.blocks in let guard = c.in_ok-guard.guard in
    let at = links_at bs guard c.links_mut-links.ensures.value in
    looped bs c.make.new.self.writes.count c.make.new.self.writes.count guard at.0 at.1
    (state_of c.args.self.now) c.store.new.self
    c.store-2.new.self c.store.ensures.stored c.store-2.ensures.stored refl c.in_ok-guard.ensures.made
