use Rattle.hashlink_table.proofs.Names.{w8, eqb, arith, ap, ◌∙◌, map, mask_l, bit_and, bitmask_splat}
use Rattle.hashlink_table.proofs.Records.{with_tag_mask}
use Rattle.hashlink_table.specs.Records.{Record, has_own}
use Rattle.hashlink_table.proofs.store.group.Group.with_tag.Goals as goal

pub returns : goal.returns
returns c =
    let t = c.self.inside in
    ap (λ n. bit_and n c.from.result) (bitmask_splat w8 eqb t.tags 16 c.args.tag c.self.told (omega arith))
    ∙ ap (bit_and (mask_l (map (λ x. eqb x c.args.tag) t.tags))) c.from.ensures
    ∙ with_tag_mask t.tags t.owns t.guests c.args.tag (omega arith) c.self.told
    ∙ ap (λ (b : Record). mask_l (map (has_own c.args.tag) b.marks)) c.self.view_is
