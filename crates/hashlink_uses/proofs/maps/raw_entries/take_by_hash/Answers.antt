use Rattle.hashlink.proofs.AtKey.{taken-key}
use Rattle.hashlink_uses.proofs.Common.{rules, state_of, raw_place}
use Rattle.hashlink_uses.proofs.maps.raw_entries.take_by_hash.Goals as goal

pub returns-in-Occupied : goal.returns-in-Occupied
returns-in-Occupied g c =
    taken-key g.K.PartialEq.eq (state_of c.args.map.now) _ c.args.key.now (raw_place c.in-Occupied.entry)
    (search rules) c.remove_entry.result (search rules)
