use Rattle.hashlink_table.proofs.Names.{length, ap, ◌∙◌, nil_from_length, length_permutation, Contents}
use Rattle.hashlink_table.proofs.table.Table.with_room.Goals as goal

pub returns-clause-empty : goal.returns-clause-empty
returns-clause-empty g c =
    nil_from_length c.reserve.new.self.nodes
    (length_permutation _ _ c.reserve.ensures.nodes
    ∙ ap (λ (t : Contents g.row.N.Denot). length t.nodes) c.new-table.ensures)
