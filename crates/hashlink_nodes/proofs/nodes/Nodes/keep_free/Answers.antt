use Rattle.hashlink_nodes.proofs.{Names.{ap, length, ◌∙◌, arith}, Calls.free_added, Opening.seal}
use Rattle.hashlink_nodes.proofs.nodes.Nodes.keep_free.Goals as goal

pub invariant_of-self : goal.invariant_of-self
invariant_of-self g c =
    seal (free_added c.self.invariant c.self.view_is c.requires.guarded c.requires.few c.keep-node.ensures
    c.store_next.ensures.stored).sound

pub returns : goal.returns
returns g c =
    let l = free_added c.self.invariant c.self.view_is c.requires.guarded c.requires.few c.keep-node.ensures
    c.store_next.ensures.stored in
    record { entries = l.entries; free = ap length l.free ∙ omega arith; link_writes = l.link_writes }
