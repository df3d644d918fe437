use Rattle.hashlink_map.proofs.Taking.{gives-in_order, gives-in_reverse}
use Rattle.hashlink_map.proofs.into_iter.LinkedHashMapIntoIterator.into_iter.Goals as goal

pub returns-clause-runs : goal.returns-clause-runs
returns-clause-runs g c = gives-in_order

pub returns-clause-runs_back : goal.returns-clause-runs_back
returns-clause-runs_back g c = gives-in_reverse
