use Rattle.hashlink_table.proofs.Names.{None, Some, refl, sym, ◌∙◌}
use Rattle.hashlink_table.proofs.Linking.{no_guest, within_by_kept}
use Rattle.hashlink_table.proofs.Moving.{arranged-set, if_kept, nodes-written}
use Rattle.hashlink_table.proofs.store.removal.take.Goals as goal

pub returns-clause-arranged : goal.returns-clause-arranged
returns-clause-arranged g c =
    let cells = c.args.slots.now.cells in
    rw c.set_free.ensures
    (arranged-set c.requires.arranged c.args.at _ (within_by_kept cells c.args.at c.requires.there) refl refl
    (no_guest cells c.args.at (sym c.is_guest.ensures ∙ c.if-is_guest.false)) (λ k is. absurd (cc is)))

pub returns-clause-nodes : goal.returns-clause-nodes
returns-clause-nodes g c =
    let cells = c.args.slots.now.cells in
    rw c.set_free.ensures
    (if_kept _ _ (λ kept is. nodes-written cells c.args.at _ None (Some kept)
    (within_by_kept cells c.args.at c.requires.there) refl is))
