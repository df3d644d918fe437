use Rattle.hashlink_table.proofs.Names.{arith, ap, ◌∙◌, map, mask_l}
use Rattle.hashlink_table.proofs.Records.{free_mask}
use Rattle.hashlink_table.specs.Records.{Record, is_free}
use Rattle.hashlink_table.proofs.store.group.Group.free.Goals as goal

pub returns : goal.returns
returns c =
    let t = c.self.inside in
    c.from.ensures ∙ free_mask t.tags t.owns t.guests (omega arith) (omega arith)
    ∙ ap (λ (b : Record). mask_l (map is_free b.marks)) c.self.view_is
