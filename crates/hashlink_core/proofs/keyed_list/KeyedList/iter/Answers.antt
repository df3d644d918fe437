use Rattle.hashlink_core.proofs.{Names.deref_pair, Calls.sound, Walk.{in-order, in-reverse}}
use Rattle.hashlink_core.proofs.keyed_list.KeyedList.iter.Goals as goal

pub returns-clause-runs : goal.returns-clause-runs
returns-clause-runs g c = in-order deref_pair

pub returns-clause-runs_back : goal.returns-clause-runs_back
returns-clause-runs_back g c = in-reverse deref_pair

pub returns-clause-sound : goal.returns-clause-sound
returns-clause-sound g c = sound c.self.view_is c.self.invariant
