use Rattle.hashlink_uses.proofs.Common.{◌≡◌, ap, ◌∙◌, rules, state_of, occupied_place, written-key}
use Rattle.hashlink_uses.proofs.Common.{absent-written}
use Rattle.hashlink_uses.proofs.maps.entries.write_for_good.Goals as goal

pub returns-in-Occupied : goal.returns-in-Occupied
returns-in-Occupied g c =
    written-key g.K.PartialEq.eq (state_of c.args.map.now) _ c.args.key (occupied_place c.in-Occupied.entry)
    (search rules) c.args.value (search rules)

pub returns-in_default : goal.returns-in_default
returns-in_default g c =
    let old = state_of c.args.map.now in
    let same : c.match-this.map ≡ c.args.map.now = search rules in
    ap state_of same ∙ absent-written g.K.PartialEq.eq old c.args.key (search rules) c.args.value
