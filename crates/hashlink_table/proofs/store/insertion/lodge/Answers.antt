use Rattle.hashlink_table.proofs.Names.{◌<◌, ◌/◌, ℕ, length, None, Some, true, refl, ap, ◌∙◌, arith}
use Rattle.hashlink_table.proofs.Names.{Cell, Head, no_guests, with_guest_in}
use Rattle.hashlink_table.proofs.{Linking.first_read, Moving.{arranged-lodged, nodes-written}}
use Rattle.hashlink_table.proofs.store.insertion.lodge.Given as given
use Rattle.hashlink_table.proofs.store.insertion.lodge.Goals.{Start}
use Rattle.hashlink_table.proofs.store.insertion.lodge.Goals as goal

-- the group is among the groups
group : (g : given.Over) (c : Start g) → c.args.base / 16 < length c.args.slots.now.heads
group g c = omega (arith, c.requires.within, c.requires.whole, c.requires.arranged.paired)

pub returns-clause-arranged : goal.returns-clause-arranged
returns-clause-arranged g c =
    let b = c.args.base / 16 in let at = c.lodging-at.result in let heads = c.args.slots.now.heads in
    let low = group g (goal.at.returns-clause-arranged g c).Start in
    rw (c.set_head.ensures, c.put_guest.ensures)
    (arranged-lodged c.requires.arranged at b _ c.with.result c.args.kept c.lodging-at.ensures.within
    c.requires.small c.lodging-at.ensures.free low c.requires.home
    (ap (λ (n : ℕ). let d : Cell g.row.N.Denot = record { kept = Some c.args.kept; guest = true; next = n } in
    d)
    (ap (λ (h : Head). h.first) c.head-head.ensures ∙ first_read heads b no_guests low))
    (c.with.ensures ∙ ap (λ (h : Head). with_guest_in h c.args.kept.hash at) c.head-head.ensures))

pub returns-clause-nodes : goal.returns-clause-nodes
returns-clause-nodes g c =
    rw (c.set_head.ensures, c.put_guest.ensures)
    (nodes-written c.args.slots.now.cells c.lodging-at.result _ (Some c.args.kept) None
    c.lodging-at.ensures.within
    refl c.lodging-at.ensures.free)
