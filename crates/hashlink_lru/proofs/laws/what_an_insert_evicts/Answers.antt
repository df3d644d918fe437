use Rattle.hashlink_lru.proofs.{Evicting.{evicts_first, evicts_alone, evicts_none}, Pushing.pushes_named}
use Rattle.hashlink_lru.proofs.laws.what_an_insert_evicts.Goals as goal

pub returns : goal.returns
returns g c = search (evicts_first, evicts_alone, evicts_none, pushes_named)
