use Rattle.std.proofs.Common.{arith}
use Rattle.hashlink_table.proofs.{Grids.{cells_are, slots_long, stores-rest}, Storing.linked_on}
use Rattle.hashlink_table.proofs.store.slots.Slots.set_next.Goals as goal

pub index_mut-requires : goal.index_mut-requires
index_mut-requires g c = omega (arith, slots_long c.self.invariant c.self.view_is, c.requires.within)

pub invariant_of-self : goal.invariant_of-self
invariant_of-self g c =
    (stores-rest c.self.invariant c.self.view_is (linked_on c.self.invariant.tagged
    (cells_are c.self.invariant c.self.view_is) c.args.at c.requires.within c.args.to c.index_mut.result.now
    c.index_mut.ensures.value c.requires.small)).0

pub returns : goal.returns
returns g c =
    (stores-rest c.self.invariant c.self.view_is (linked_on c.self.invariant.tagged
    (cells_are c.self.invariant c.self.view_is) c.args.at c.requires.within c.args.to c.index_mut.result.now
    c.index_mut.ensures.value c.requires.small)).1
