use Rattle.hashlink_nodes.proofs.{Names.{ap, refl, option_map, Entry, pair_of}, StateLemmas.pair_at}
use Rattle.hashlink_nodes.proofs.pool.Pool.entry_mut.Goals as goal

pub returns : goal.returns
returns g c =
    let at = pair_at c.args.self.now.arena.blocks c.args.node c.pair_mut-pair.result.now
    c.pair_mut-pair.ensures.value in (
      (refl, λ w. refl),
      record {
        lends = tt;
        pair = ap (option_map (λ (h : Entry g.row.K.Denot g.row.V.Denot). pair_of h)) at.held;
      },
    )
