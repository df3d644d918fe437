use Rattle.std.proofs.Common.{arith}
use Rattle.hashlink_table.proofs.{Grids.{cells_are, slots_long}, Linking.within_by_kept, Storing.kept_read}
use Rattle.hashlink_table.proofs.store.slots.Slots.known.Goals as goal

pub index-requires : goal.index-requires
index-requires g c =
    omega (arith, within_by_kept _ c.args.at c.requires, slots_long c.self.invariant c.self.view_is)

pub index-requires-2 : goal.index-requires-2
index-requires-2 g c =
    omega (arith, within_by_kept _ c.args.at c.requires, slots_long c.self.invariant c.self.view_is)

pub returns : goal.returns
returns g c =
    kept_read c.self.invariant.tagged (cells_are c.self.invariant c.self.view_is) c.args.at
    (within_by_kept _ c.args.at c.requires) _ _ c.index-2.ensures c.index.ensures c.requires
