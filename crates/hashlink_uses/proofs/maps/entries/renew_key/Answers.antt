use Rattle.hashlink.proofs.Found.{is-found, is-not-found}
use Rattle.hashlink_uses.proofs.Common.{rules, entries_of, raw_place}
use Rattle.hashlink_uses.proofs.maps.entries.renew_key.Goals as goal

pub returns-in-Occupied-clause-found : goal.returns-in-Occupied-clause-found
returns-in-Occupied-clause-found g c =
    is-found (g.K.PartialEq.eq c.args.key) (entries_of c.args.map.now) (raw_place c.in-Occupied.entry)
    (search rules)

pub returns-in-Vacant-clause-found : goal.returns-in-Vacant-clause-found
returns-in-Vacant-clause-found g c =
    is-not-found (g.K.PartialEq.eq c.args.key) (entries_of c.args.map.now) (search rules)
