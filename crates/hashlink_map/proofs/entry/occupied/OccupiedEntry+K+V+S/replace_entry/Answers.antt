use Rattle.hashlink_core.specs.Keyed.{state_of}
use Rattle.hashlink_map.proofs.EntryUpdates.{updates-pair}
use Rattle.hashlink_map.proofs.entry.occupied.OccupiedEntry+K+V+S.replace_entry.Goals as goal

pub returns-clause-updates : goal.returns-clause-updates
returns-clause-updates g c =
    let o = c.args.self in
    updates-pair g.K.PartialEq.eq g.met.K.Eq.laws (state_of o.map.now) _ o.key _ o.stands.place
    c.args.value _ c.replace_pair_at.ensures.replaces
