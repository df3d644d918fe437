use Rattle.hashlink_table.proofs.Names.{◌≡◌, ◌<◌, ◌%◌, ◌/◌, true, false, length, refl, sym, ap, ◌∙◌}
use Rattle.hashlink_table.proofs.Names.{subst, arith}
use Rattle.hashlink_table.proofs.Names.{eq-eqb, same_Some, true≢false, Hashed, next_at, guest_at}
use Rattle.hashlink_table.proofs.Names.{kept_may_be, tag_of}
use Rattle.hashlink_table.proofs.{Linking.positive_by_power, Views.guest_agrees}
use Rattle.hashlink_table.proofs.Walks.{looks-on, on_bucket, search_start, search_on, steps_left}
use Rattle.hashlink_table.proofs.Walks.{steps_left-falls}
use Rattle.hashlink_table.proofs.search.seek_guests.Given as given
use Rattle.hashlink_table.proofs.search.seek_guests.Goals as goal
use Rattle.hashlink_table.proofs.search.seek_guests.Goals.{Start, then-may_have_guest+else-kept-hash}
use Rattle.hashlink_table.proofs.search.seek_guests.Goals.{else-kept-hash-via-then-kept-hash+else-is_match}
use Rattle.hashlink_table.proofs.search.seek_guests.Goals.{else-kept-hash-via-else-kept-hash}
use Rattle.hashlink_table.proofs.search.seek_guests.Goals.{else-may_have_guest}

-- the bucket, and its group, are below the number of slots
module _ (g : given.Over) (c : Start g) where
  some : 0 < length c.args.slots.now.cells
  some = positive_by_power (length c.args.slots.now.cells) c.requires.masked

  bucket : c.args.hash % length c.args.slots.now.cells < length c.args.slots.now.cells
  bucket = omega (arith, some)

  group : c.args.hash % length c.args.slots.now.cells / 16 < length c.args.slots.now.cells
  group = omega (arith, bucket)

pub loop-at-init : goal.loop-at-init
loop-at-init g c =
    let s = (goal.at.loop-at-init g c).Start in
    rw c.requires.first
    (search_start c.args.slots.now.cells c.args.slots.now.heads _ _ _ c.requires.linked c.requires.group
    (group g s)
    (bucket g s))

pub returns-then-is_match-clause-cost : goal.returns-then-is_match-clause-cost
returns-then-is_match-clause-cost g c =
    let s = (goal.at.returns-then-is_match-clause-cost g c).Start in
    let slots = c.args.slots.now.cells in let m = length slots in let v = c.loop-at.invariant in
    let here : on_bucket slots m (c.args.hash % m) c.loop-at.at ≡ true
    = guest_agrees m c.args.hash (guest_at slots c.loop-at.at) c.requires.whole
    (v.walk.link.on c.loop-at-test.true) (sym c.may_have_guest.ensures ∙ c.if-may_have_guest.true) in
    let left = rw here at (looks-on v (group g s) (bucket g s) c.loop-at-test.true) in
    omega (arith, v.cost, left, c.look_at_guest-kept.ensures.step)

pub loop-at-smaller : goal.loop-at-smaller
loop-at-smaller g c =
    let s = (goal.at.loop-at-smaller g c).Start in let slots = c.args.slots.now.cells in
    subst
    (λ n. steps_left (next_at slots) (length slots) n < steps_left (next_at slots) (length slots)
    c.loop-at.at)
    (sym c.next.ensures.value)
    (steps_left-falls c.loop-at.invariant.walk (group g s) c.loop-at-test.true)

pub loop-at-preserved : goal.loop-at-preserved
loop-at-preserved g c =
    let s = (goal.at.loop-at-preserved g c).Start in
    let slots = c.args.slots.now.cells in let m = length slots in let v = c.loop-at.invariant in
    let at = c.loop-at.at in
    elim c.if-may_have_guest.branch [
      | then-may_have_guest+else-kept-hash w ↦
          let here : on_bucket slots m (c.args.hash % m) at ≡ true
          = guest_agrees m c.args.hash (guest_at slots at) c.requires.whole (v.walk.link.on
          c.loop-at-test.true)
          (sym c.may_have_guest.ensures ∙ w.if-may_have_guest.true) in
          search_on v (group g s) (bucket g s) c.loop-at-test.true
          (λ node sought.
          let same = same_Some _ _ (sym w.look_at_guest-kept.ensures.value ∙ sought) in
          elim w.else-kept-hash.branch as (λ _. g.F.Fn.post c.args.is_match (node, tt) false) [
            | else-kept-hash-via-then-kept-hash+else-is_match w' ↦
                subst (λ (k : Hashed g.row.N.Denot). g.F.Fn.post c.args.is_match (k.node, tt) false) same
                w'.if-is_match.ensures
            | else-kept-hash-via-else-kept-hash w' ↦
                absurd (w'.if-kept-hash.false (ap (λ (k : Hashed g.row.N.Denot). k.hash) same))
          ]) _ _ (sym c.next.ensures.value)
          (omega (arith, w.steps-is, w.look_at_guest-kept.ensures.step))
          (rw here (omega (arith, w.steps-is, w.look_at_guest-kept.ensures.step)))
      | else-may_have_guest w ↦
          search_on v (group g s) (bucket g s) c.loop-at-test.true
          (λ node sought.
          let may : kept_may_be c.args.hash (guest_at slots at) ≡ true
          = rw sought (eq-eqb (tag_of c.args.hash) (tag_of c.args.hash) refl) in
          absurd (true≢false (sym may ∙ sym c.may_have_guest.ensures ∙ w.if-may_have_guest.false)))
          _ _ (sym c.next.ensures.value) (omega (arith, w.steps-is)) (omega (arith, w.steps-is))
    ]
