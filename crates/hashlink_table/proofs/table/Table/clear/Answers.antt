use Rattle.hashlink_table.proofs.Names.{[], ap, ◌∙◌, Contents}
use Rattle.hashlink_table.proofs.Sound.{contents-cleared, sound-cleared}
use Rattle.hashlink_table.proofs.table.Table.clear.Goals as goal

pub invariant_of-self : goal.invariant_of-self
invariant_of-self g c = rw c.clear.ensures (sound-cleared c.self.invariant)

pub returns : goal.returns
returns g c =
    rw c.clear.ensures
    (contents-cleared c.self.inside.slots.cells c.self.inside.room
    ∙ ap (λ r. let u : Contents g.row.N.Denot = record { nodes = []; room = r } in u)
    (ap (λ (u : Contents g.row.N.Denot). u.room) c.self.view_is))
