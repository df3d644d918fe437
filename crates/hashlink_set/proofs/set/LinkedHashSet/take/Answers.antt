use Rattle.hashlink_set.proofs.Names.{None, entries_of}
use Rattle.hashlink_model.proofs.SetUpdates.{set_updates}
use Rattle.hashlink_set.proofs.set.LinkedHashSet.take.Goals as goal

pub returns-in_err-stored-clause-updates : goal.returns-in_err-stored-clause-updates
returns-in_err-stored-clause-updates g c =
    rw (← c.self.view_is)
    (set_updates g.T.PartialEq.eq (g.Q.Equivalent.matches c.args.value) (entries_of c.self.inside.map)
    (entries_of c.remove_entry.new.self) None c.remove_entry.ensures.updates)

pub returns-clause-updates : goal.returns-clause-updates
returns-clause-updates g c =
    rw (← c.self.view_is)
    (set_updates g.T.PartialEq.eq (g.Q.Equivalent.matches c.args.value) (entries_of c.self.inside.map)
    (entries_of c.remove_entry.new.self) None c.remove_entry.ensures.updates)
