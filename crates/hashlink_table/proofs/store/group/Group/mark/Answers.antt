use Rattle.hashlink_table.proofs.Names.{ap, sym, ◌∙◌, get_or}
use Rattle.hashlink_table.proofs.Records.{mark_read}
use Rattle.hashlink_table.specs.{Records.{Record, free_mark}}
use Rattle.std.proofs.lemmas.Nat.Bits.{shr_and_one}
use Rattle.hashlink_table.proofs.store.group.Group.mark.Goals as goal

pub returns : goal.returns
returns c =
    let t = c.self.inside in
    rw (shr_and_one t.owns c.args.lane, shr_and_one t.guests c.args.lane)
    (sym (mark_read t.tags t.owns t.guests c.args.lane c.requires)
    ∙ ap (λ (b : Record). get_or b.marks c.args.lane free_mark) c.self.view_is)
