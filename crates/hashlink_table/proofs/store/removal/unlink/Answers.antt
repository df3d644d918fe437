use Rattle.hashlink_table.proofs.Names.{◌≡◌, ◌<◌, length, sym, ap, ◌∙◌, subst, inl, inr, arith, map-set_same}
use Rattle.hashlink_table.proofs.Names.{refl, bare_cell, next_at, stored_in, first_at, Head}
use Rattle.hashlink_table.proofs.Names.{no_guests}
use Rattle.hashlink_table.proofs.Linking.{first_read, unlinked_first, unlinked_next, within_by_chain}
use Rattle.hashlink_table.proofs.Walks.{IsWalk, rank, to_come, walk_of, walk_on, walk_goes, steps_left}
use Rattle.hashlink_table.proofs.Walks.{steps_left-falls}
use Rattle.hashlink_table.proofs.store.removal.unlink.Given as given
use Rattle.hashlink_table.proofs.store.removal.unlink.Goals.{Start, After-head-head}
use Rattle.hashlink_table.proofs.store.removal.unlink.Goals as goal

-- the group is below the number of slots
low : (g : given.Over) (c : Start g) → c.args.group < length c.args.slots.now.cells
low g c = omega (arith, c.requires.within, c.requires.few)

-- the first guest of the group
first : (g : given.Over) (c : After-head-head g)
    → c.head-head.result.first ≡ first_at c.args.slots.now.heads c.args.group
first g c =
    ap (λ (h : Head). h.first) c.head-head.ensures
    ∙ first_read c.args.slots.now.heads c.args.group no_guests c.requires.within

-- a walk along the chain that has not passed the guest is at a cell
within_walk : (g : given.Over) (c : Start g) (at : _)
    → (w : IsWalk c.args.slots.now.cells (length c.args.slots.now.cells) c.args.group at)
    → rank w c.args.guest < w.from → at < length c.args.slots.now.cells
within_walk g c at w to_come =
    within_by_chain (length c.args.slots.now.cells) c.args.slots.now.cells at c.args.group
    (w.link.on (walk_goes w c.args.guest c.requires.on_chain to_come)) (low g c)

pub returns-then-first-guest-clause-unlinked : goal.returns-then-first-guest-clause-unlinked
returns-then-first-guest-clause-unlinked g c =
    rw c.set_head.ensures
    (unlinked_first c.args.slots.now.cells c.args.slots.now.heads c.args.group c.args.guest c.from.result
    c.requires.within c.requires.few
    (sym (first g (goal.at.returns-then-first-guest-clause-unlinked g c).After-head-head) ∙
    c.if-first-guest.true)
    (c.from.ensures.first ∙ c.next-after.ensures.value) c.requires.on_chain c.requires.linked)

pub loop-slots-init : goal.loop-slots-init
loop-slots-init g c =
    let slots = c.args.slots.now.cells in let heads = c.args.slots.now.heads in
    let w = walk_of slots heads c.args.group c.requires.linked c.requires.within in
    let first = first g (goal.at.loop-slots-init g c).After-head-head in
    let to_come = w.all.rank.below c.args.guest in
    rw first (record {
      walk = w;
      to_come = to_come;
      apart = rw first at c.if-first-guest.false;
      within = within_walk g (goal.at.loop-slots-init g c).Start _ w to_come;
    })

pub loop-slots-smaller : goal.loop-slots-smaller
loop-slots-smaller g c =
    let slots = c.args.slots.now.cells in
    let v = c.loop-slots.invariant in
    subst
    (λ n. steps_left (next_at slots) (length slots) n < steps_left (next_at slots) (length slots)
    c.loop-slots.at)
    (sym c.next-at.ensures.value)
    (steps_left-falls v.walk (low g (goal.at.loop-slots-smaller g c).Start)
    (walk_goes v.walk c.args.guest c.requires.on_chain v.to_come))

pub loop-slots-preserved : goal.loop-slots-preserved
loop-slots-preserved g c =
    let v = c.loop-slots.invariant in
    let ne = walk_goes v.walk c.args.guest c.requires.on_chain v.to_come in
    let r = walk_on v.walk ne in
    let later : rank r c.args.guest < r.from
    = elim (to_come v.walk c.args.guest c.requires.on_chain v.to_come ne) as (λ _. rank r c.args.guest <
    r.from)
    [ inl e ↦ absurd (v.apart (sym e)) | inr m ↦ m ] in
    rw c.next-at.ensures.value (record {
      walk = r;
      to_come = later;
      apart = λ e. c.loop-slots-test.true (c.next.ensures.value ∙ e);
      within = within_walk g (goal.at.loop-slots-preserved g c).Start _ r later;
    })

pub returns-clause-unlinked : goal.returns-clause-unlinked
returns-clause-unlinked g c =
    let slots = c.args.slots.now.cells in
    let v = c.loop-slots.invariant in
    rw c.set_next.ensures
    (unlinked_next slots c.args.slots.now.heads c.loop-slots.at c.args.guest _ c.requires.few v.within
    (sym c.next.ensures.value ∙ c.loop-slots-test.false) c.next-after.ensures.value refl
    (c.requires.on_chain
    ∙ sym (v.walk.link.on (walk_goes v.walk c.args.guest c.requires.on_chain v.to_come)))
    c.requires.linked)

pub returns-clause-nodes : goal.returns-clause-nodes
returns-clause-nodes g c =
    rw c.set_next.ensures
    (map-set_same stored_in c.args.slots.now.cells c.loop-slots.at _ bare_cell refl)
