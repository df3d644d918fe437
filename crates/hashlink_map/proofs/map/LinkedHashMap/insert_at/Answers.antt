use Rattle.hashlink_map.proofs.Names.{◌≡◌, Ok, None, Some, refl, rules, state_of, place_number}
use Rattle.hashlink_map.proofs.Inserted.{inserted}
use Rattle.hashlink_core.proofs.Keeping.{keys-added, keys-grown, keys-moved, keys-place, keys-written}
use Rattle.hashlink_core.proofs.{AtKey.stays-key, Keeping.{keys_twice, left-place}}
use Rattle.hashlink_core.proofs.AtKeyNode.{written-number, written-holds, put, added, refused, passed-on}
use Rattle.hashlink_model.specs.MapState.{Inserts}
use Rattle.hashlink_map.proofs.map.LinkedHashMap.insert_at.Goals as goal

-- ---- an absent key

pub returns-in_err-insert_before : goal.returns-in_err-insert_before
returns-in_err-insert_before g c =
    let old = c.self.inside.list in let new = c.insert_before.new.self in
    let e = c.in_err-insert_before.ensures in
    rw (← c.self.view_is) (inserted g.met.K.Eq.laws e.was_sound e.sound c.args.key c.args.value
    c.from_residual.result c.args.place
    (passed-on (Inserts g.K.PartialEq.eq (state_of old) (state_of new) c.args.key c.args.value
    (place_number old.nodes c.args.place)) c.from_residual.result _ c.from_residual.ensures.1
    (refused g.K.PartialEq.eq old new c.args.key c.args.value c.in_err-insert_before.field-0.0
    c.in_default.ensures.found e.no_spare e.handed_back e.refused))
    (keys-grown old new e.refused))

pub returns-in_default : goal.returns-in_default
returns-in_default g c =
    let old = c.self.inside.list in let new = c.insert_before.new.self in
    let e = c.in_ok-insert_before.ensures in
    rw (← c.self.view_is) (inserted g.met.K.Eq.laws e.was_sound e.sound c.args.key c.args.value (Ok None)
    c.args.place (added g.K.PartialEq.eq old new c.args.key c.args.value
    (place_number old.nodes c.args.place) _ c.in_ok-insert_before.field-0 refl
    c.in_default.ensures.found e.added)
    (keys-added old new e.added))

-- ---- a present key

pub is_at-requires-clause-node : goal.is_at-requires-clause-node
is_at-requires-clause-node g c =
    written-holds c.replace_value-old.ensures.written c.in-Some.found.node c.in-Some.ensures.found.within

pub is_at-requires-clause-place : goal.is_at-requires-clause-place
is_at-requires-clause-place g c =
    let old = c.self.inside.list in let new = c.replace_value-old.new.self in
    keys-place old new (keys-written old new c.replace_value-old.ensures.written) c.args.place
    (rw c.self.view_is c.requires.within)

pub returns-then-is_at : goal.returns-then-is_at
returns-then-is_at g c =
    let old = c.self.inside.list in let w = c.replace_value-old in
    let at : c.args.place ≡ Some c.in-Some.found.node = c.is_at.ensures.0 (search rules) in
    rw (← c.self.view_is) (inserted g.met.K.Eq.laws w.ensures.was_sound w.ensures.sound c.args.key
    c.args.value (Ok (Some w.result)) c.args.place
    (rw at (stays-key g.K.PartialEq.eq (state_of old) (state_of w.new.self) c.args.key _
    c.in-Some.ensures.found.place c.args.value w.result
    (record { answer = w.ensures.value; step = w.ensures.written.state })))
    (keys-written old w.new.self w.ensures.written))

pub move_before-requires-clause-node : goal.move_before-requires-clause-node
move_before-requires-clause-node g c =
    written-holds c.replace_value-old.ensures.written c.in-Some.found.node c.in-Some.ensures.found.within

pub move_before-requires-clause-place : goal.move_before-requires-clause-place
move_before-requires-clause-place g c =
    let old = c.self.inside.list in
    let new = c.replace_value-old.new.self in let w = c.replace_value-old.ensures in
    left-place new.nodes w.sound.apart c.in-Some.found.node c.args.place (λ same. search rules)
    (keys-place old new (keys-written old new w.written) c.args.place (rw c.self.view_is c.requires.within))

pub returns : goal.returns
returns g c =
    let old = c.self.inside.list in let w = c.replace_value-old in let t = c.move_before in
    let held = written-holds w.ensures.written c.in-Some.found.node c.in-Some.ensures.found.within in
    rw (← c.self.view_is) (inserted g.met.K.Eq.laws w.ensures.was_sound t.ensures.sound c.args.key
    c.args.value (Ok (Some w.result)) c.args.place
    (put g.K.PartialEq.eq old t.new.self c.args.key c.in-Some.found.node c.in-Some.ensures.found w.new.self
    c.args.value w.result _ _ (written-number w.ensures.written c.args.place) w.ensures.value
    w.ensures.written t.ensures.moved)
    (keys_twice old w.new.self t.new.self (keys-written old w.new.self w.ensures.written)
    (keys-moved w.new.self t.new.self w.ensures.sound.apart c.in-Some.found.node held t.ensures.moved)))
