use Rattle.hashlink_uses.proofs.Common.{◌∙◌, rules, state_of, occupied_place, written-key, absent-written}
use Rattle.hashlink_uses.proofs.maps.entries.set_to_seven.Goals as goal

pub returns-in-Occupied : goal.returns-in-Occupied
returns-in-Occupied g c =
    written-key g.K.PartialEq.eq (state_of c.args.map.now) _ c.args.key (occupied_place c.in-Occupied.entry)
    (search rules) 7 (search rules)

pub returns-in-Vacant : goal.returns-in-Vacant
returns-in-Vacant g c =
    (search rules) ∙ absent-written g.K.PartialEq.eq (state_of c.args.map.now) c.args.key (search rules) 7
