use Rattle.hashlink_set.proofs.Names.{None, entries_of}
use Rattle.hashlink_model.proofs.SetUpdates.{set_updates}
use Rattle.hashlink_set.proofs.set.LinkedHashSet.pop_front.Goals as goal

pub returns-clause-updates : goal.returns-clause-updates
returns-clause-updates g c =
    rw (← c.self.view_is)
    (set_updates g.T.PartialEq.eq (g.T.PartialEq.eq c.in_ok-first.first) (entries_of c.self.inside.map)
    (entries_of c.pop_front.new.self) None c.in_ok-first.ensures.updates)
