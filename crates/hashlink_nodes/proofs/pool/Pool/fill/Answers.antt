use Rattle.hashlink_nodes.proofs.Names.{Some, ap, refl, ◌∙◌, lookup, with_entry, same_node, held, state}
use Rattle.hashlink_nodes.proofs.{ArenaBlocks.found, StateLemmas.held_anew}
use Rattle.hashlink_nodes.proofs.pool.Pool.fill.Goals as goal

pub returns : goal.returns
returns g c =
    let bs = c.args.self.now.arena.blocks in let count = c.args.self.now.writes.count in
    let at = found (lookup (same_node c.args.node) bs) c.requires.has in
    ap (λ x. state x count) c.fill.ensures
    ∙ held_anew bs count count c.args.node at.0 at.1
    (with_entry (Some (c.args.number, (c.args.key, c.args.value)))) refl
    (Some (held c.args.number c.args.key c.args.value)) refl
