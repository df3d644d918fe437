use Rattle.hashlink_table.proofs.{Names.{arith}, Grids.{slots_long, stores-head}}
use Rattle.hashlink_table.proofs.store.slots.Slots.set_head.Goals as goal

pub index_mut-requires : goal.index_mut-requires
index_mut-requires g c =
    omega (arith, slots_long c.self.invariant c.self.view_is, c.self.inside.groups.ok.0, c.requires)

pub invariant_of-self : goal.invariant_of-self
invariant_of-self g c =
    (stores-head c.self.invariant c.self.view_is c.args.group c.args.head c.index_mut.result.now _ c.requires
    c.index_mut.ensures.value c.set_head.ensures).0

pub returns : goal.returns
returns g c =
    (stores-head c.self.invariant c.self.view_is c.args.group c.args.head c.index_mut.result.now _ c.requires
    c.index_mut.ensures.value c.set_head.ensures).1
