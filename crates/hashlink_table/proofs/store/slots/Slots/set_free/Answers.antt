use Rattle.std.proofs.Common.{arith}
use Rattle.hashlink_table.proofs.{Grids.{cells_are, slots_long, stores-mark}, Storing.{freed}}
use Rattle.hashlink_table.proofs.store.slots.Slots.set_free.Goals as goal

pub index_mut-requires : goal.index_mut-requires
index_mut-requires g c =
    omega (arith, slots_long c.self.invariant c.self.view_is, c.self.inside.groups.ok.0, c.requires)

pub invariant_of-self : goal.invariant_of-self
invariant_of-self g c =
    (stores-mark c.self.invariant c.self.view_is c.args.at _ c.index_mut.result.now _ c.requires
    c.index_mut.ensures.value c.set_free.ensures
    (freed c.self.invariant.tagged (cells_are c.self.invariant c.self.view_is) c.args.at c.requires _)).0

pub returns : goal.returns
returns g c =
    (stores-mark c.self.invariant c.self.view_is c.args.at _ c.index_mut.result.now _ c.requires
    c.index_mut.ensures.value c.set_free.ensures
    (freed c.self.invariant.tagged (cells_are c.self.invariant c.self.view_is) c.args.at c.requires _)).1
