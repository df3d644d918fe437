use Rattle.std.specs.Prelude.{OnErr}
use Rattle.hashlink.specs.MapState.{AddsEntry, RefusesEntry}
use Rattle.hashlink_uses.proofs.Common.{ap, is_none, is_ok, length, subst, ◌∙◌, rules, IsOk, IfErr}
use Rattle.hashlink.proofs.Found.{is-not-absent}
use Rattle.hashlink_uses.proofs.Common.{entries_of, state_of, occupied_place}
use Rattle.hashlink_uses.proofs.maps.entries.put_new.Goals as goal

pub returns-in-Occupied-clause-added : goal.returns-in-Occupied-clause-added
returns-in-Occupied-clause-added g c =
    is-not-absent (g.K.PartialEq.eq c.args.key) (entries_of c.args.map.now)
    (occupied_place c.in-Occupied.entry)
    (search rules)

pub returns-in-Occupied-clause-there : goal.returns-in-Occupied-clause-there
returns-in-Occupied-clause-there g c _ =
    ap state_of ((search rules) ∙ c.into_key.ensures.unchanged ∙ c.in-Occupied.ensures.unchanged)

pub returns-in_ok-insert-in-Vacant-clause-added : goal.returns-in_ok-insert-in-Vacant-clause-added
returns-in_ok-insert-in-Vacant-clause-added g c = ap is_none c.in-Vacant.ensures.value

pub returns-in_ok-insert-in-Vacant-clause-new : goal.returns-in_ok-insert-in-Vacant-clause-new
returns-in_ok-insert-in-Vacant-clause-new g c _ =
    let eq = g.K.PartialEq.eq in
    let old = state_of c.args.map.now in
    let f = c.insert.follows in
    let u = c.in_ok-insert-in-Vacant.field-0.now in
    let new = state_of (f.lender u) in
    let ok : IsOk c.insert.result = ap is_ok c.in_ok-insert-in-Vacant.was in
    let value = c.in_ok-insert-in-Vacant.ensures.value in
    let adds : AddsEntry eq old new c.args.key u (length old.entries) =
    subst (λ s. AddsEntry eq s.map new s.key u (length s.map.entries)) c.in-Vacant.ensures.entry
    (f.holds u ok) in
    let put : AddsEntry eq old new c.args.key c.args.value (length old.entries) =
    subst (λ v. AddsEntry eq old new c.args.key v (length old.entries)) value adds in
    search rules

pub returns-in_err-insert-in-Vacant-clause-refused : goal.returns-in_err-insert-in-Vacant-clause-refused
returns-in_err-insert-in-Vacant-clause-refused g c =
    let eq = g.K.PartialEq.eq in
    let e = c.in-Vacant.entry in
    let f = c.insert.follows in
    let new = state_of f.lender-at-none in
    let pair = c.in_err-insert-in-Vacant.field-0.0 in
    let refused : RefusesEntry eq (state_of e.map.now) new e.key c.args.value pair =
    subst (λ r. OnErr r (IfErr r (RefusesEntry eq (state_of e.map.now) new e.key c.args.value)))
    c.in_err-insert-in-Vacant.was f.holds-at-none in
    let moved : RefusesEntry eq (state_of c.args.map.now) new c.args.key c.args.value pair =
    subst (λ s. RefusesEntry eq s.map new s.key c.args.value pair) c.in-Vacant.ensures.entry refused in
    search rules
