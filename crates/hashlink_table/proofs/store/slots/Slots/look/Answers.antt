use Rattle.std.proofs.Common.{arith}
use Rattle.hashlink_table.proofs.{Grids.{cells_are, slots_long}, Linking.within_by_own, Storing.own_read}
use Rattle.hashlink_table.proofs.store.slots.Slots.look.Goals as goal

pub index-requires : goal.index-requires
index-requires g c =
    omega (arith, within_by_own _ c.args.at c.requires, slots_long c.self.invariant c.self.view_is)

pub returns-clause-node : goal.returns-clause-node
returns-clause-node g c =
    own_read c.self.invariant.tagged (cells_are c.self.invariant c.self.view_is) c.args.at
    (within_by_own _ c.args.at c.requires) _ c.index.ensures c.requires
