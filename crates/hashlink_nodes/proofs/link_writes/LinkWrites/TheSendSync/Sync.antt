use denote.{Struct.Owning.{shape, to}, Param.Send.{IsSync, struct_sync, sendable}}
use Rattle.hashlink_nodes.specs.contracts.link_writes.LinkWrites.{the_row, the_type}

pub sync : IsSync the_row
sync = record {
  shared = λ d b o κ. ((struct_sync (shape the_type) (search sendable, tt)).shared (to the_type d) b o κ, tt);
}
