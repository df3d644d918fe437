use Rattle.hashlink_model.proofs.KeptNodes.{moving}
use Rattle.hashlink_model.proofs.states.every_node_is_kept.Goals as goal

pub returns-clause-moves_and_writes : goal.returns-clause-moves_and_writes
returns-clause-moves_and_writes g c = search moving
