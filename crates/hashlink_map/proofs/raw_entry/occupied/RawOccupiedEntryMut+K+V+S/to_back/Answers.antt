use Rattle.hashlink_core.specs.Keyed.{state_of}
use Rattle.hashlink_map.proofs.EntryUpdates.{keeps-moved_raw}
use Rattle.hashlink_map.proofs.raw_entry.occupied.RawOccupiedEntryMut+K+V+S.to_back.Goals as goal

pub returns-clause-keeps : goal.returns-clause-keeps
returns-clause-keeps g c =
    let e = c.move_to_back.ensures in
    keeps-moved_raw g.K.PartialEq.eq g.met.K.Eq.laws (state_of c.args.self.now.map.now) _ _ e.distinct _
    e.moves
