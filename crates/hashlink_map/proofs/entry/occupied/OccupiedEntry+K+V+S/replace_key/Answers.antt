use Rattle.hashlink_core.{proofs.Holding.holds-equal, specs.Keyed.state_of}
use Rattle.hashlink_map.proofs.EntryUpdates.{keeps-key}
use Rattle.hashlink_map.proofs.entry.occupied.OccupiedEntry+K+V+S.replace_key.Goals as goal

pub replace_key_at-requires-clause-equal : goal.replace_key_at-requires-clause-equal
replace_key_at-requires-clause-equal g c =
    let o = c.args.self in holds-equal g.K.PartialEq.eq o.map.now o.node o.key o.stands

pub returns-clause-keeps : goal.returns-clause-keeps
returns-clause-keeps g c =
    let o = c.args.self in
    keeps-key g.K.PartialEq.eq g.met.K.Eq.laws (state_of o.map.now) _ o.key _ o.stands.place _
    c.replace_key_at.ensures.replaces
