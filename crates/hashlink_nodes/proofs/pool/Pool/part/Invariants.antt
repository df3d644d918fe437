use Rattle.std.specs.Map.{keys_of}
use Rattle.hashlink_nodes.proofs.pool.Pool.part.Given as goal

abbrev pub ghost-part : goal.ghost-part
ghost-part g a = keys_of g.entries
