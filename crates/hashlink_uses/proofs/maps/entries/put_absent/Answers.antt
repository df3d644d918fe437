use Rattle.hashlink.{specs.MapState.AddsEntry, proofs.AtNode.adds-rewritten-at}
use Rattle.hashlink.proofs.Found.{is-not-absent}
use Rattle.hashlink_uses.proofs.Common.{◌≡◌, length, subst, rules, state_of, entries_of, raw_place}
use Rattle.hashlink_uses.proofs.maps.entries.put_absent.Goals as goal

pub returns-in_ok-map-in-Vacant-clause-put : goal.returns-in_ok-map-in-Vacant-clause-put
returns-in_ok-map-in-Vacant-clause-put g c ok =
    let old = c.args.map.now in
    let o = c.in_ok-map-in-Vacant.field-0 in
    let e = c.in_ok-map-in-Vacant.ensures in
    let same : c.in-Vacant.entry.map.now ≡ old = search rules in
    let adds = subst
    (λ m. AddsEntry g.K.PartialEq.eq (state_of m) (state_of o.map.now) c.args.key c.args.value
    (length (entries_of m)))
    same e.adds in
    let last = subst (λ m. raw_place o ≡ length (entries_of m)) same e.last in
    adds-rewritten-at g.met.K.Eq.laws (state_of old) (state_of o.map.now) c.args.key c.args.value
    (raw_place o) _
    c.args.written adds last (search rules)

pub returns-in-Occupied-clause-added : goal.returns-in-Occupied-clause-added
returns-in-Occupied-clause-added g c =
    is-not-absent (g.K.PartialEq.eq c.args.key) (entries_of c.args.map.now) (raw_place c.in-Occupied._entry)
    (search rules)
