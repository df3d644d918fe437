use Rattle.hashlink_map.proofs.Names.{sym}
use Rattle.hashlink_map.proofs.map.LinkedHashMap.pair_at_place.Goals as goal

pub returns : goal.returns
returns g c = rw c.in_ok-node.was (sym c.pair_at.ensures)
