use Rattle.hashlink_table.proofs.Names.{◌≡◌, arith, get_or, free_mark, marks_in}
use Rattle.hashlink_table.proofs.Grids.{cells_are, mark_is, slots_long}
use Rattle.hashlink_table.proofs.Storing.{guest_read, may_have_guest_read, taken_read}
use Rattle.hashlink_table.proofs.store.slots.Slots.mark.Given as given
use Rattle.hashlink_table.proofs.store.slots.Slots.mark.Goals.{After-mark}
use Rattle.hashlink_table.proofs.store.slots.Slots.mark.Goals as goal

pub index-requires : goal.index-requires
index-requires g c = omega (arith, slots_long c.self.invariant c.self.view_is, c.self.inside.groups.ok.0)

-- the mark, among those of all slots
read : (g : given.Over) (c : After-mark g)
    → get_or (marks_in c.self.inside.groups.items) c.args.at free_mark ≡ c.mark.result
read g c =
    mark_is c.self.invariant c.self.view_is c.args.at c.index.result.now c.mark.result c.requires
    c.index.ensures
    c.mark.ensures

pub returns-clause-guest : goal.returns-clause-guest
returns-clause-guest g c =
    guest_read c.self.invariant.tagged (cells_are c.self.invariant c.self.view_is) c.args.at c.requires _
    (read g (goal.at.returns-clause-guest g c).After-mark)

pub returns-clause-there : goal.returns-clause-there
returns-clause-there g c =
    taken_read c.self.invariant.tagged (cells_are c.self.invariant c.self.view_is) c.args.at c.requires _
    (read g (goal.at.returns-clause-there g c).After-mark)

pub returns-clause-agrees : goal.returns-clause-agrees
returns-clause-agrees g c =
    may_have_guest_read c.self.invariant.tagged (cells_are c.self.invariant c.self.view_is) c.args.at
    c.requires _
    (read g (goal.at.returns-clause-agrees g c).After-mark)
