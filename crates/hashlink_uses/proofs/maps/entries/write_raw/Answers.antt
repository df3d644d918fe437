use Rattle.hashlink.proofs.AtKey.{replaced-key}
use Rattle.hashlink.proofs.Found.{is-found, is-not-found}
use Rattle.hashlink_uses.proofs.Common.{rules, entries_of, state_of, raw_place}
use Rattle.hashlink_uses.proofs.maps.entries.write_raw.Goals as goal

pub returns-in-Occupied-clause-writes : goal.returns-in-Occupied-clause-writes
returns-in-Occupied-clause-writes g c =
    replaced-key g.K.PartialEq.eq (state_of c.args.map.now) _ c.args.key.now (raw_place c.in-Occupied.entry)
    (search rules) c.args.value c.replace_value.result (search rules)

pub returns-in-Occupied-clause-found : goal.returns-in-Occupied-clause-found
returns-in-Occupied-clause-found g c =
    is-found (g.K.PartialEq.eq c.args.key.now) (entries_of c.args.map.now) (raw_place c.in-Occupied.entry)
    (search rules)

pub returns-in-Vacant-clause-found : goal.returns-in-Vacant-clause-found
returns-in-Vacant-clause-found g c =
    is-not-found (g.K.PartialEq.eq c.args.key.now) (entries_of c.args.map.now) (search rules)
