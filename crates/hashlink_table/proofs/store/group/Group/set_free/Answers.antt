use Rattle.hashlink_table.proofs.Names.{List, ap, ◌∙◌, set, get_or, false}
use Rattle.hashlink_table.proofs.Records.{marks-free}
use Rattle.hashlink_table.specs.Records.{Record, free_mark}
use Rattle.hashlink_table.specs.declared.store.{head.Head.Head, mark.Mark.Mark}
use Rattle.hashlink_table.proofs.store.group.Group.set_free.Goals as goal

pub returns : goal.returns
returns c =
    let t = c.self.inside in
    let head : Head = record { first = t.first; mask = t.mask } in
    let own = c.with_bit-self-inside.ensures in let guest = c.with_bit-self-inside-2.ensures in
    ap (λ (ms : List Mark). let b : Record = record { marks = ms; head = head } in b)
    (marks-free t.tags t.owns t.guests c.args.lane _ _ c.requires c.self.told own.same own.others guest.same
    guest.others)
    ∙ ap (λ (b : Record). let d : Record = record b {
      marks = set b.marks c.args.lane
          (record (get_or b.marks c.args.lane free_mark) { own = false; guest = false });
    } in d) c.self.view_is
