use Rattle.hashlink_core.specs.Keyed.{state_of}
use Rattle.hashlink_map.proofs.EntryUpdates.{keeps-key_raw}
use Rattle.hashlink_map.proofs.raw_entry.occupied.RawOccupiedEntryMut+K+V+S.replace_key.Goals as goal

pub returns-clause-keeps : goal.returns-clause-keeps
returns-clause-keeps g c =
    let e = c.replace_key_at.ensures in
    keeps-key_raw g.K.PartialEq.eq g.met.K.Eq.laws (state_of c.args.self.now.map.now) _ _ e.distinct _ _
    c.requires e.replaces
