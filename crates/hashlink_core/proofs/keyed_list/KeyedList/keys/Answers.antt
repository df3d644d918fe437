use Rattle.std.specs.Map.Iter.{deref}
use Rattle.hashlink_core.proofs.Walk.{in-order, in-reverse}
use Rattle.hashlink_core.proofs.keyed_list.KeyedList.keys.Goals as goal

pub returns-clause-runs : goal.returns-clause-runs
returns-clause-runs g c = in-order deref

pub returns-clause-runs_back : goal.returns-clause-runs_back
returns-clause-runs_back g c = in-reverse deref
