use Rattle.hashlink_table.proofs.Names.{arith}
use Rattle.hashlink_table.proofs.Grids.{in-lists, stores-guest}
use Rattle.hashlink_table.proofs.store.slots.Slots.put_guest.Goals as goal

pub index_mut-requires : goal.index_mut-requires
index_mut-requires g c =
    omega (
      arith,
      in-lists c.self.invariant c.self.view_is c.args.at c.requires.within,
      c.self.inside.groups.ok.0,
    )

pub index_mut-requires-2 : goal.index_mut-requires-2
index_mut-requires-2 g c =
    omega (
      arith,
      in-lists c.self.invariant c.self.view_is c.args.at c.requires.within,
      c.self.inside.nodes.ok.0,
    )

pub index_mut-requires-3 : goal.index_mut-requires-3
index_mut-requires-3 g c =
    omega (
      arith,
      in-lists c.self.invariant c.self.view_is c.args.at c.requires.within,
      c.self.inside.rests.ok.0,
    )

pub invariant_of-self : goal.invariant_of-self
invariant_of-self g c =
    (stores-guest c.self.invariant c.self.view_is c.args.at c.args.kept _ c.index_mut.result.now _
    c.requires.within c.index_mut.ensures.value c.tag.ensures c.args.next c.requires.small
    c.set_guest.ensures).0

pub returns : goal.returns
returns g c =
    (stores-guest c.self.invariant c.self.view_is c.args.at c.args.kept _ c.index_mut.result.now _
    c.requires.within c.index_mut.ensures.value c.tag.ensures c.args.next c.requires.small
    c.set_guest.ensures).1
