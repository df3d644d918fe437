use Rattle.hashlink_table.proofs.{Names.{arith, ◌∙◌}, Grids.{head_is, slots_long}}
use Rattle.hashlink_table.proofs.store.slots.Slots.head.Goals as goal

pub index-requires : goal.index-requires
index-requires g c =
    omega (arith, slots_long c.self.invariant c.self.view_is, c.self.inside.groups.ok.0, c.requires)

pub returns : goal.returns
returns g c =
    c.head.ensures ∙ head_is c.self.invariant c.self.view_is c.args.group c.index.result.now c.requires
    c.index.ensures
