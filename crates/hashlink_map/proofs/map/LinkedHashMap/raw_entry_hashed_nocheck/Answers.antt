use Rattle.hashlink_map.proofs.Names.{sym, rules, entries_of, lookup_entry-place, lookup_entry-unplaced}
use Rattle.hashlink_map.proofs.map.LinkedHashMap.raw_entry_hashed_nocheck.Goals as goal
use Rattle.hashlink_core.proofs.Holding.{holds-passes}

pub returns-in-Some-clause-pair : goal.returns-in-Some-clause-pair
returns-in-Some-clause-pair g c =
    sym (lookup_entry-place (g.Q.Equivalent.matches c.args.key) (entries_of c.args.self.now) _ (search rules))

pub returns-in-None-clause-pair : goal.returns-in-None-clause-pair
returns-in-None-clause-pair g c =
    sym (lookup_entry-unplaced (g.Q.Equivalent.matches c.args.key) (entries_of c.args.self.now)
    (search rules))

pub returns-in-Some-clause-equal : goal.returns-in-Some-clause-equal
returns-in-Some-clause-equal g c =
    holds-passes (g.Q.Equivalent.matches c.args.key) c.args.self.now c.in-Some.found.node (search rules)
