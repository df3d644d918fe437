use Rattle.hashlink_nodes.proofs.Names.{None, ap, refl, ◌∙◌, with_entry, state}
use Rattle.hashlink_nodes.proofs.StateLemmas.{pair_at, held_anew}
use Rattle.hashlink_nodes.proofs.pool.Pool.take.Goals as goal

pub returns-clause-is : goal.returns-clause-is
returns-clause-is g c =
    let bs = c.args.self.now.arena.blocks in let count = c.args.self.now.writes.count in
    let at = pair_at bs c.args.node c.take.result c.take.ensures.pair in
    ap (λ x. state x count) c.take.ensures.left
    ∙ held_anew bs count count c.args.node at.block at.looked (with_entry None) refl None refl
