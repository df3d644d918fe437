use denote.Param.Send.{IsSend, owning_send, sendable}
use Rattle.hashlink_nodes.specs.contracts.link_writes.LinkWrites.{the_row, the_type}

pub send : IsSend the_row
send = owning_send the_type (search sendable, tt) (λ d. tt) (λ k x w. tt)
