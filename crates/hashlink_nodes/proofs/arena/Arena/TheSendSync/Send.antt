use denote.{RattleType.RattleType, Param.Send.IsSend}
use Rattle.hashlink_nodes.{proofs.Crosses.Arena-send, specs.contracts.arena.Arena.the_row}

pub send : (R : RattleType) → IsSend R → IsSend (the_row R)
send = Arena-send
