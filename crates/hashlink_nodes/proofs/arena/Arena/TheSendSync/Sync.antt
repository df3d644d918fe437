use denote.{RattleType.RattleType, Param.Send.IsSync}
use Rattle.hashlink_nodes.{proofs.Crosses.Arena-sync, specs.contracts.arena.Arena.the_row}

pub sync : (R : RattleType) → IsSync R → IsSync (the_row R)
sync = Arena-sync
