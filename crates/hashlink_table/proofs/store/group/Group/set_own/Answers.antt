use Rattle.hashlink_table.proofs.Names.{List, ap, ◌∙◌, set, get_or, true}
use Rattle.hashlink_table.proofs.Records.{marks-own}
use Rattle.hashlink_table.specs.Records.{Record, free_mark}
use Rattle.hashlink_table.specs.declared.store.{head.Head.Head, mark.Mark.Mark}
use Rattle.hashlink_table.proofs.store.group.Group.set_own.Goals as goal

pub returns : goal.returns
returns c =
    let t = c.self.inside in
    let head : Head = record { first = t.first; mask = t.mask } in
    let own = c.with_bit-self-inside.ensures in
    ap (λ (ms : List Mark). let b : Record = record { marks = ms; head = head } in b)
    (marks-own t.tags t.owns t.guests c.args.lane c.args.tag _ c.requires c.self.told own.same own.others)
    ∙ ap (λ (b : Record). let d : Record = record b {
      marks = set b.marks c.args.lane
          (record (get_or b.marks c.args.lane free_mark) { tag = c.args.tag; own = true });
    } in d) c.self.view_is
