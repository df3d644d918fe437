use Rattle.hashlink_nodes.proofs.Names.{state_of}
use Rattle.hashlink_nodes.specs.Parting.{entries_from}
use Rattle.hashlink_nodes.proofs.nodes.Nodes.take_entries.Given as goal

abbrev pub ghost-part : goal.ghost-part
ghost-part g a = entries_from (state_of a.self.now) a.first a.len
