use Rattle.hashlink_core.specs.Keyed.{state_of}
use Rattle.hashlink_map.proofs.EntryUpdates.{keeps-moved_at}
use Rattle.hashlink_map.proofs.entry.occupied.OccupiedEntry+K+V+S.to_back.Goals as goal

pub returns-clause-keeps : goal.returns-clause-keeps
returns-clause-keeps g c =
    let o = c.args.self.now in let e = c.move_to_back.ensures in
    keeps-moved_at g.K.PartialEq.eq g.met.K.Eq.laws (state_of o.map.now) _ o.key _ o.stands.place _
    e.distinct e.moves
