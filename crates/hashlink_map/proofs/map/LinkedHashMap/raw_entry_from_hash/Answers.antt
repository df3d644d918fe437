use Rattle.hashlink_map.proofs.Names.{sym, rules, entries_of, lookup_entry-place, lookup_entry-unplaced}
use Rattle.hashlink_map.proofs.map.LinkedHashMap.raw_entry_from_hash.Goals as goal
use Rattle.hashlink_core.proofs.Holding.{holds-passes}

pub returns-in-Some-clause-pair : goal.returns-in-Some-clause-pair
returns-in-Some-clause-pair g c k told =
    sym (lookup_entry-place (g.K.PartialEq.eq k) (entries_of c.args.self.now) _ (search rules))

pub returns-in-None-clause-pair : goal.returns-in-None-clause-pair
returns-in-None-clause-pair g c k told =
    sym (lookup_entry-unplaced (g.K.PartialEq.eq k) (entries_of c.args.self.now) (search rules))

pub returns-in-Some-clause-equal : goal.returns-in-Some-clause-equal
returns-in-Some-clause-equal g c k told =
    holds-passes (g.K.PartialEq.eq k) c.args.self.now c.in-Some.found.node (search rules)
