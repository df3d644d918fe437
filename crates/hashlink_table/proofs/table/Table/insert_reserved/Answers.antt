use Rattle.hashlink_table.proofs.Names.{ap, arith, Contents, len_of}
use Rattle.hashlink_table.proofs.Sound.{sound-put}
use Rattle.hashlink_table.proofs.table.Table.insert_reserved.Goals as goal

pub invariant_of-self : goal.invariant_of-self
invariant_of-self g c =
    let put = c.put in
    let len = ap (λ (u : Contents g.row.N.Denot). len_of u) c.self.view_is in
    let room = ap (λ (u : Contents g.row.N.Denot). u.room) c.self.view_is in
    sound-put put.new.slots.cells put.new.slots.heads _ c.self.invariant
    (omega (arith, c.requires, len, room, c.self.invariant.counted)) put.ensures.len put.ensures.arranged
    put.ensures.nodes
