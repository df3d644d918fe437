use Rattle.hashlink_table.proofs.Grids.{slots_long}
use Rattle.std.proofs.Common.{arith}
use Rattle.hashlink_table.proofs.store.slots.Slots.len.Goals as goal

pub returns : goal.returns
returns g c = omega (arith, slots_long c.self.invariant c.self.view_is)
