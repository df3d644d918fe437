use Rattle.std.proofs.Common.{Ok, sym, ◌∙◌}
use Rattle.hashlink.proofs.CallerLemmas.{set_inserts_new}
use Rattle.hashlink_uses.proofs.lines.add_new.Goals as goal

pub returns-in-Ok : goal.returns-in-Ok
returns-in-Ok g c =
    let absent = sym c.contains.ensures.found ∙ c.if-contains.false in
    rw absent
    (set_inserts_new c.args.seen.now c.insert.new.self g.T.PartialEq.eq c.args.item absent
    (Ok c.in-Ok.field-0) c.in-Ok.ensures.inserts).1
