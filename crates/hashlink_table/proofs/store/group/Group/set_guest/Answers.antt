use Rattle.hashlink_table.proofs.Names.{List, ap, ◌∙◌, set, false, true}
use Rattle.hashlink_table.proofs.Records.{marks-set}
use Rattle.hashlink_table.specs.{Records.Record, declared.store.head.Head.Head, declared.store.mark.Mark.Mark}
use Rattle.hashlink_table.proofs.store.group.Group.set_guest.Goals as goal

pub returns : goal.returns
returns c =
    let t = c.self.inside in
    let head : Head = record { first = t.first; mask = t.mask } in
    let mark : Mark = record { tag = c.args.tag; own = false; guest = true } in
    let own = c.with_bit-self-inside.ensures in let guest = c.with_bit-self-inside-2.ensures in
    ap (λ (ms : List Mark). let b : Record = record { marks = ms; head = head } in b)
    (marks-set t.tags t.owns t.guests c.args.lane mark _ _ c.requires c.self.told own.same own.others
    guest.same guest.others)
    ∙ ap (λ (b : Record). let d : Record = record b { marks = set b.marks c.args.lane mark } in d)
    c.self.view_is
