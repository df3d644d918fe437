use Rattle.std.proofs.Common.{◌≡◌, length}
use Rattle.hashlink_nodes.proofs.nodes.Nodes.release_free.Given as goal

abbrev pub invariant-loop-self : goal.invariant-loop-self
invariant-loop-self g l = (l.self.entries ≡ l.initial.self.entries)
    × (l.self.link_writes ≡ l.initial.self.link_writes)

abbrev pub decreases-loop-self : goal.decreases-loop-self
decreases-loop-self g l = length l.self.free
