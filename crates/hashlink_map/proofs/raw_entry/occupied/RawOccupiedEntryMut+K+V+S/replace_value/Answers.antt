use Rattle.hashlink_core.specs.Keyed.{state_of}
use Rattle.hashlink_map.proofs.EntryUpdates.{updates-value_raw}
use Rattle.hashlink_map.proofs.raw_entry.occupied.RawOccupiedEntryMut+K+V+S.replace_value.Goals as goal

pub returns-clause-updates : goal.returns-clause-updates
returns-clause-updates g c =
    let e = c.replace_value_at.ensures in
    updates-value_raw g.K.PartialEq.eq g.met.K.Eq.laws (state_of c.args.self.now.map.now) _ _ e.distinct _ _
    e.replaces
