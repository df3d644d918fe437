use Rattle.hashlink_map.proofs.Names.{Ok, None, Some, Replaces, length, entries_of, state_of}
use Rattle.hashlink_map.proofs.Inserted.{replaced}
use Rattle.hashlink_core.proofs.{AtKey.replaced-key, AtKeyNode.{guard-number, added, refused, passed-on}}
use Rattle.hashlink_map.proofs.map.LinkedHashMap.replace.Goals as goal

pub returns-in-Some : goal.returns-in-Some
returns-in-Some g c =
    let old = c.self.inside.list in let s = c.replace_value.ensures in
    rw (← c.self.view_is) (replaced g.met.K.Eq.laws s.was_sound s.sound c.args.key c.args.value
    (Ok (Some c.replace_value.result)) (replaced-key g.K.PartialEq.eq (state_of old)
    (state_of c.replace_value.new.self) c.args.key _ c.in-Some.ensures.found.place
    c.args.value c.replace_value.result
    (record { answer = s.value; step = s.written.state })))

pub returns-in_err-insert_before : goal.returns-in_err-insert_before
returns-in_err-insert_before g c =
    let old = c.self.inside.list in let new = c.insert_before.new.self in
    let e = c.in_err-insert_before.ensures in
    rw (← c.self.view_is) (replaced g.met.K.Eq.laws e.was_sound e.sound c.args.key c.args.value
    c.from_residual.result (passed-on
    (Replaces g.K.PartialEq.eq (state_of old) (state_of new) c.args.key c.args.value)
    c.from_residual.result _ c.from_residual.ensures.1
    (refused g.K.PartialEq.eq old new c.args.key c.args.value
    c.in_err-insert_before.field-0.0 c.in_default.ensures.found e.no_spare e.handed_back e.refused)))

pub returns : goal.returns
returns g c =
    let old = c.self.inside.list in let e = c.in_ok-insert_before.ensures in
    rw (← c.self.view_is) (replaced g.met.K.Eq.laws e.was_sound e.sound c.args.key c.args.value
    (Ok None) (added g.K.PartialEq.eq old c.insert_before.new.self c.args.key c.args.value
    (length (entries_of old)) _ c.in_ok-insert_before.field-0 (guard-number old)
    c.in_default.ensures.found e.added))
