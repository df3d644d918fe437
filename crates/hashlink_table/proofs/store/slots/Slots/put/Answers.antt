use Rattle.hashlink_table.proofs.Names.{arith}
use Rattle.hashlink_table.proofs.Grids.{in-lists, stores-put}
use Rattle.hashlink_table.proofs.store.slots.Slots.put.Goals as goal

pub index_mut-requires : goal.index_mut-requires
index_mut-requires g c =
    omega (
      arith,
      in-lists c.self.invariant c.self.view_is c.args.at c.requires,
      c.self.inside.groups.ok.0,
    )

pub index_mut-requires-2 : goal.index_mut-requires-2
index_mut-requires-2 g c =
    omega (
      arith,
      in-lists c.self.invariant c.self.view_is c.args.at c.requires,
      c.self.inside.nodes.ok.0,
    )

pub index_mut-requires-3 : goal.index_mut-requires-3
index_mut-requires-3 g c =
    omega (
      arith,
      in-lists c.self.invariant c.self.view_is c.args.at c.requires,
      c.self.inside.rests.ok.0,
    )

pub invariant_of-self : goal.invariant_of-self
invariant_of-self g c =
    (stores-put c.self.invariant c.self.view_is c.args.at c.args.kept _ c.index_mut.result.now _ c.requires
    c.index_mut.ensures.value c.tag.ensures c.index_mut-3.result.now c.set_own.ensures
    c.index_mut-3.ensures.value).0

pub returns : goal.returns
returns g c =
    (stores-put c.self.invariant c.self.view_is c.args.at c.args.kept _ c.index_mut.result.now _ c.requires
    c.index_mut.ensures.value c.tag.ensures c.index_mut-3.result.now c.set_own.ensures
    c.index_mut-3.ensures.value).1
