use Rattle.std.proofs.Common.{arith, ◌∙◌}
use Rattle.hashlink_nodes.proofs.{Calls.{into_after, ready_moved}, Opening.{fits, if_some, node_at, seal}}
use Rattle.hashlink_nodes.proofs.nodes.Nodes.move_after.Goals as goal

pub detach-requires : goal.detach-requires
detach-requires g c = fits c.self.invariant c.self.view_is c.args.node c.requires.node

pub attach_after-requires : goal.attach_after-requires
attach_after-requires g c =
    let at = node_at c.self.invariant c.self.view_is c.unwrap-guard.ensures c.args.node c.requires.node in
    (into_after (ready_moved at c.detach.ensures) c.args.place c.requires.place c.unwrap_or.ensures).fits

pub invariant_of-self : goal.invariant_of-self
invariant_of-self g c =
    let at = node_at c.self.invariant c.self.view_is c.unwrap-guard.ensures c.args.node c.requires.node in
    let i = into_after (ready_moved at c.detach.ensures) c.args.place c.requires.place c.unwrap_or.ensures in
    seal (i.leaves at.is c.attach_after.ensures).sound

pub returns : goal.returns
returns g c =
    let at = node_at c.self.invariant c.self.view_is c.unwrap-guard.ensures c.args.node c.requires.node in
    let i = into_after (ready_moved at c.detach.ensures) c.args.place c.requires.place c.unwrap_or.ensures in
    let l = i.leaves at.is c.attach_after.ensures in record {
      moved = if_some _ at.cut.entry l.entries;
      free = l.free;
      link_writes = l.link_writes ∙ omega arith;
    }
