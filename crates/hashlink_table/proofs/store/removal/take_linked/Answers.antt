use Rattle.hashlink_table.proofs.Names.{◌≡◌, ◌≢◌, ◌<◌, ◌%◌, ◌/◌, cond, length, Option, None}
use Rattle.hashlink_table.proofs.Names.{Some}
use Rattle.hashlink_table.proofs.Names.{refl, sym, ap, ◌∙◌, arith, same_Some, IsPermutation-trans}
use Rattle.hashlink_table.proofs.Names.{Bool, Hashed, END, chain_at, guest_at, first_at, Head}
use Rattle.hashlink_table.proofs.Names.{no_guests}
use Rattle.hashlink_table.proofs.Linking.{first_read, guest_kept, no_guest, on_chain, within_by_kept}
use Rattle.hashlink_table.proofs.{Moving.{arranged-set, if_kept, nodes-written}, Walks.walk_of}
use Rattle.hashlink_table.proofs.store.removal.take_linked.Given as given
use Rattle.hashlink_table.proofs.store.removal.take_linked.Goals.{After-head-first}
use Rattle.hashlink_table.proofs.store.removal.take_linked.Goals as goal

-- the slot and its group
module _ (g : given.Over) (c : After-head-first g) where
  low : c.args.at < length c.args.slots.now.cells
  low = within_by_kept c.args.slots.now.cells c.args.at c.requires.there

  group : c.args.at / 16 < length c.args.slots.now.heads
  group = omega (arith, low, c.requires.whole, c.requires.arranged.paired)

  free : guest_at c.args.slots.now.cells c.args.at ≡ None
  free = no_guest c.args.slots.now.cells c.args.at (sym c.is_guest.ensures ∙ c.if-is_guest.false)

  first : c.head-first.result.first ≡ first_at c.args.slots.now.heads (c.args.at / 16)
  first =
      ap (λ (h : Head). h.first) c.head-first.ensures
      ∙ first_read c.args.slots.now.heads (c.args.at / 16) no_guests group

  linked : c.head-first.result.first ≢ END
  linked = rw first (c.requires.linked (sym c.is_guest.ensures ∙ c.if-is_guest.false))

  on : (first_at c.args.slots.now.heads (c.args.at / 16) ≢ END)
      → chain_at (length c.args.slots.now.cells) c.args.slots.now.cells (first_at c.args.slots.now.heads
      (c.args.at / 16))
      ≡ c.args.at / 16
  on ne = (walk_of c.args.slots.now.cells c.args.slots.now.heads (c.args.at / 16) c.requires.arranged.linked
      group).link.on ne

  -- the first guest of the group, in another slot
  module _ (some : c.head-first.result.first ≢ END) where
    guest : (k : Hashed g.row.N.Denot)
        × (guest_at c.args.slots.now.cells (first_at c.args.slots.now.heads (c.args.at / 16)) ≡ Some k)
        × (k.hash % length c.args.slots.now.cells / 16 ≡ c.args.at / 16)
    guest =
        on_chain _ c.args.slots.now.cells _ (c.args.at / 16) (on (rw first at some))
        (omega (arith, group, c.requires.arranged.paired))

    apart : c.args.at ≢ c.head-first.result.first
    apart = λ e. absurd (cc (sym free ∙ ap (guest_at c.args.slots.now.cells) (e ∙ first) ∙ guest.1))

pub take_out-follower-requires-clause-on_chain : goal.take_out-follower-requires-clause-on_chain
take_out-follower-requires-clause-on_chain g c =
    let s = (goal.at.take_out-follower-requires-clause-on_chain g c).After-head-first in
    rw (first g s) (on g s (rw (first g s) at (linked g s)))

pub returns-clause-arranged : goal.returns-clause-arranged
returns-clause-arranged g c =
    let s = (goal.at.returns-clause-arranged g c).After-head-first in let some = linked g s in
    let t = c.take_out-follower in let slots = c.args.slots.now.cells in let m = length slots in
    let own = guest g s some in let same = t.ensures.others c.args.at (apart g s some) in
    let taken = same_Some _ _ (sym (guest_kept slots _ own.0 own.1) ∙ (rw (first g s) at t.ensures.kept)) in
    rw c.put.ensures
    (arranged-set t.ensures.arranged c.args.at _ (omega (arith, low g s, t.ensures.len)) refl refl
    (ap (λ (w : Option (Hashed g.row.N.Denot) × Bool). cond w.1 w.0 None) same ∙ free g s)
    (λ k is. rw t.ensures.len
    (ap (λ (j : Hashed g.row.N.Denot). j.hash % m / 16) (sym (taken ∙ same_Some _ _ is)) ∙ own.2)))

pub returns-clause-nodes : goal.returns-clause-nodes
returns-clause-nodes g c =
    let s = (goal.at.returns-clause-nodes g c).After-head-first in let t = c.take_out-follower in
    let same = t.ensures.others c.args.at (apart g s (linked g s)) in
    rw c.put.ensures
    (if_kept _ _ (λ kept is. IsPermutation-trans _ _ _ t.ensures.nodes
    (nodes-written t.new.slots.cells c.args.at _ (Some t.result) (Some kept)
    (omega (arith, low g s, t.ensures.len)) refl
    (ap (λ (w : Option (Hashed g.row.N.Denot) × Bool). w.0) same ∙ is))))
