use Rattle.hashlink_nodes.proofs.{Names.{ap, store_prev, State}, StateLemmas.{links_at, stored_prev}}
use Rattle.hashlink_nodes.proofs.pool.Pool.store_prev.Goals as goal

pub returns-clause-stored : goal.returns-clause-stored
returns-clause-stored g c =
    let at = links_at c.args.self.now.arena.blocks c.args.node c.links_mut.ensures.value in
    stored_prev c.args.self.now.arena.blocks _ _ c.args.node at.0 at.1 c.links_mut.result.now at.2 c.args.to
    c.store.new.self c.store.ensures.stored c.store.ensures.counted

pub returns-clause-there : goal.returns-clause-there
unfolding store_prev
returns-clause-there g c n =
    ap (λ (t : State g.row.K.Denot g.row.V.Denot). t.has n) (returns-clause-stored g c)
