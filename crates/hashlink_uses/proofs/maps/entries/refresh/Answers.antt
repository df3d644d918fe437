use Rattle.hashlink.proofs.AtKey.{inserted-key}
use Rattle.hashlink_uses.proofs.Common.{rules, state_of, occupied_place}
use Rattle.hashlink_uses.proofs.maps.entries.refresh.Goals as goal

pub returns-in-Occupied-clause-puts : goal.returns-in-Occupied-clause-puts
returns-in-Occupied-clause-puts g c =
    inserted-key g.K.PartialEq.eq (state_of c.args.map.now) _ c.args.key (occupied_place c.in-Occupied.entry)
    (search rules) c.args.value c.insert-old.result (search rules)
