use Rattle.hashlink_map.proofs.Names.{sym, entries_of, lookup-place, lookup-unplaced}
use Rattle.hashlink_map.proofs.map.LinkedHashMap.entry.Goals as goal

pub returns-in-Some-clause-value : goal.returns-in-Some-clause-value
returns-in-Some-clause-value g c =
    sym (lookup-place (g.K.PartialEq.eq c.args.key) (entries_of c.args.self.now) _
    (rw c.self.view_is at c.in-Some.ensures.found.place))

pub returns-in-None-clause-value : goal.returns-in-None-clause-value
returns-in-None-clause-value g c =
    sym (lookup-unplaced (g.K.PartialEq.eq c.args.key) (entries_of c.args.self.now)
    (rw c.self.view_is at c.in-None.ensures.found))
