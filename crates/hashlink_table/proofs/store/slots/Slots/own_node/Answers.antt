use Rattle.hashlink_table.proofs.Names.{arith, bare_cell, get_or}
use Rattle.hashlink_table.proofs.{Grids.{cells_are, slots_long}, Storing.{own_found, own_read}}
use Rattle.hashlink_table.proofs.store.slots.Slots.own_node.Goals as goal

pub index-requires : goal.index-requires
index-requires g c = omega (arith, slots_long c.self.invariant c.self.view_is)

pub returns : goal.returns
returns g c =
    own_found c.mark.result (get_or c.args.self.now.cells c.args.at bare_cell) c.index.result.now
    c.if-not-mark.false c.mark.ensures.guest c.mark.ensures.there
    (own_read c.self.invariant.tagged (cells_are c.self.invariant c.self.view_is) c.args.at
    (omega arith) _ c.index.ensures)
