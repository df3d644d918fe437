use Rattle.hashlink_map.proofs.Names.{deref_pair, in-order}
use Rattle.hashlink_map.proofs.map.LinkedHashMap.iter_from.Goals as goal

pub returns-clause-runs : goal.returns-clause-runs
returns-clause-runs g c = in-order deref_pair
