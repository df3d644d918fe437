use Rattle.hashlink_table.proofs.Names.{arith, is_some, is_taken}
use Rattle.hashlink_table.proofs.Grids.{cells_are, marks_from, slots_long}
use Rattle.hashlink_table.proofs.Storing.{agrees_taken, group_tests}
use Rattle.hashlink_table.proofs.store.slots.Slots.taken.Goals as goal

pub index-requires : goal.index-requires
index-requires g c =
    omega (arith, slots_long c.self.invariant c.self.view_is, c.self.inside.groups.ok.0, c.requires.within)

pub returns-clause-lanes : goal.returns-clause-lanes
returns-clause-lanes g c =
    group_tests c.self.invariant.tagged (cells_are c.self.invariant c.self.view_is) is_taken
    (λ d. is_some d.kept) agrees_taken c.args.base _ _ c.taken.ensures
    (marks_from c.self.invariant c.self.view_is c.args.base c.index.result.now c.requires.within
    c.requires.whole
    c.index.ensures)

pub returns-clause-small : goal.returns-clause-small
returns-clause-small g c =
    omega (
      arith,
      c.self.inside.nodes.small,
      c.self.inside.nodes.ok.0,
      c.requires.within,
      slots_long c.self.invariant c.self.view_is,
    )
