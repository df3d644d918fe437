use Rattle.hashlink_weighted.specs.Weighed.{deref_weighed}
use Rattle.hashlink_core.proofs.Walk.{in-order, in-reverse}
use Rattle.hashlink_weighted.proofs.cache.WeightedCache.iter.Goals as goal

pub returns-clause-runs : goal.returns-clause-runs
returns-clause-runs g c = in-order deref_weighed

pub returns-clause-runs_back : goal.returns-clause-runs_back
returns-clause-runs_back g c = in-reverse deref_weighed
