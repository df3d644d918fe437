use Rattle.hashlink_core.proofs.Calls.{sound}
use Rattle.hashlink_core.proofs.keyed_list.KeyedList.len.Goals as goal

pub returns-clause-sound : goal.returns-clause-sound
returns-clause-sound g c = sound c.self.view_is c.self.invariant
