use Rattle.hashlink_core.specs.Keyed.{state_of}
use Rattle.hashlink_map.proofs.EntryUpdates.{updates-taken_raw}
use Rattle.hashlink_map.proofs.raw_entry.occupied.RawOccupiedEntryMut.remove_entry.Goals as goal

pub returns-clause-takes : goal.returns-clause-takes
returns-clause-takes g c =
    let e = c.remove.ensures in
    rw (← c.as_node.ensures, ← c.map.view_is) (record { answer = e.pair; step = e.removed.state })

pub returns-clause-updates : goal.returns-clause-updates
returns-clause-updates g c =
    let e = c.remove.ensures in
    rw (← c.as_node.ensures, ← c.map.view_is)
    (updates-taken_raw g.K.PartialEq.eq g.met.K.Eq.laws (state_of c.map.inside.list) _ _
    e.was_sound.distinct _ (record { answer = e.pair; step = e.removed.state }))
