use Rattle.hashlink_nodes.proofs.{Names.{ap, sym, held, with_key}, StateLemmas.{pair_at, pair_anew}}
use Rattle.hashlink_nodes.proofs.pool.Pool.replace_key.Goals as goal

pub returns-clause-is : goal.returns-clause-is
returns-clause-is g c =
    let bs = c.args.self.now.arena.blocks in let p = c.pair_mut.result.now in
    let at = pair_at bs c.args.node p c.pair_mut.ensures.value in
    pair_anew bs c.args.self.now.writes.count c.args.node p at (c.replace.new.dest, c.pair_mut.result.now.1)
    (λ h. with_key h c.args.key) (ap (λ x. held at.number x p.1) (sym c.replace.ensures.after))
