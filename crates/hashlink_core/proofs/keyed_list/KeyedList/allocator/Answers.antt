use Rattle.hashlink_core.proofs.Calls.{sound}
use Rattle.hashlink_core.proofs.keyed_list.KeyedList.allocator.Goals as goal

pub returns : goal.returns
returns g c = sound c.self.view_is c.self.invariant
