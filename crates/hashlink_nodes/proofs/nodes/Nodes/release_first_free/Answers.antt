use Rattle.hashlink_nodes.proofs.{Calls.spare_gone, Opening.seal}
use Rattle.hashlink_nodes.proofs.nodes.Nodes.release_first_free.Goals as goal

pub invariant_of-self : goal.invariant_of-self
invariant_of-self g c =
    seal (spare_gone c.self.invariant c.self.view_is c.requires c.next-first_spare.ensures
    c.release.ensures).sound

pub returns : goal.returns
returns g c =
    let l = spare_gone c.self.invariant c.self.view_is c.requires c.next-first_spare.ensures
    c.release.ensures in
    record { entries = l.entries; free = l.free; link_writes = l.link_writes }
