use Rattle.std.proofs.Common.{sym, arith}
use Rattle.hashlink_table.proofs.{Grids.{cells_are, slots_long}, Storing.next_read}
use Rattle.hashlink_table.proofs.store.slots.Slots.next.Goals as goal

pub index-requires : goal.index-requires
index-requires g c = omega (arith, slots_long c.self.invariant c.self.view_is)

pub returns : goal.returns
returns g c =
    let read = next_read c.self.invariant.tagged (cells_are c.self.invariant c.self.view_is) c.args.at
    c.requires
    _ c.index.ensures in
    record { value = sym read.0; small = read.1 }
