use Rattle.hashlink_curve.proofs.Names.{◌-◌, ◌∙◌, ap, subst, arith, keys_of, entries_of, list_any, MovesPast}
use Rattle.hashlink_curve.proofs.Placing.{same_keys, none_found, Found, found, found_moves, found_placed}
use Rattle.hashlink_curve.proofs.{Names.GoesLast, Placing.{absent_last, free_at, placed_last}}
use Rattle.hashlink_curve.proofs.recency.Recency.touch.Goals.{In-Ok-Some}
use Rattle.hashlink_curve.proofs.recency.Recency.touch.Given as given
use Rattle.hashlink_curve.proofs.recency.Recency.touch.Goals as goal

-- the entry that the key had
was : (g : given.Over) (c : In-Ok-Some g)
    → Found g.K.PartialEq.eq g.met.K.Eq.laws (entries_of c.free_place.new.places) c.free_place.new.marks
    c.free_place.new.next c.args.key c.in-Ok-Some.place
was g c =
    found g.K.PartialEq.eq g.met.K.Eq.laws _ _ _ _ _ c.free_place.ensures.placed
    (rw c.in-Ok-Some.field-0-is at c.in-Ok-Some.ensures.inserts).old_value

pub move_mark-requires : goal.move_mark-requires
move_mark-requires g c =
    let f = was g (goal.at.move_mark-requires g c).In-Ok-Some in
    let p = c.free_place.ensures.placed in
    let free = c.in-Ok.ensures.free in
    record {
      within = (f.within, free);
      marked = f.marked;
      unmarked = free_at (entries_of c.free_place.new.places) _ _ p.rises p.marked free;
    }

pub overflow_sub-others-in-Ok-Some : goal.overflow_sub-others-in-Ok-Some
overflow_sub-others-in-Ok-Some g c =
    let f = was g (goal.at.overflow_sub-others-in-Ok-Some g c).In-Ok-Some in
    omega (arith, c.move_mark.ensures.before _ c.free_place.ensures.placed.marked ∙ f.before, f.long)

pub mark-requires-clause-unmarked : goal.mark-requires-clause-unmarked
mark-requires-clause-unmarked g c =
    let p = c.free_place.ensures.placed in
    free_at (entries_of c.free_place.new.places) c.free_place.new.next c.free_place.new.marks p.rises p.marked
    c.in-Ok.ensures.free

pub invariant_of-self-in-Ok-Some : goal.invariant_of-self-in-Ok-Some
invariant_of-self-in-Ok-Some g c =
    let f = was g (goal.at.invariant_of-self-in-Ok-Some g c).In-Ok-Some in
    let puts = rw c.in-Ok-Some.field-0-is at c.in-Ok-Some.ensures.inserts in
    let free = c.in-Ok.ensures.free in
    found_placed g.K.PartialEq.eq g.met.K.Eq.laws _ _ _ _ _ c.free_place.ensures.placed f _ _
    puts.puts.entries c.insert.ensures.distinct c.move_mark.ensures.moved (omega arith)

pub invariant_of-self-in-Ok-None : goal.invariant_of-self-in-Ok-None
invariant_of-self-in-Ok-None g c =
    let p = c.free_place.ensures.placed in
    let adds = rw c.in-Ok-None.field-0-is at c.in-Ok-None.ensures.inserts in
    let free = c.in-Ok.ensures.free in
    placed_last g.K.PartialEq.eq g.met.K.Eq.laws _ _ _ _ _ _ p.rises p.marked
    (c.in-Ok-None.ensures.added adds.absent) c.insert.ensures.distinct c.mark.ensures.marked
    (omega arith)

pub returns-in-Ok-Some-clause-touched : goal.returns-in-Ok-Some-clause-touched
returns-in-Ok-Some-clause-touched g c =
    let f = was g (goal.at.returns-in-Ok-Some-clause-touched g c).In-Ok-Some in
    let puts = rw c.in-Ok-Some.field-0-is at c.in-Ok-Some.ensures.inserts in
    let n = c.move_mark.ensures.before _ c.free_place.ensures.placed.marked ∙ f.before in
    let new = entries_of c.insert.new.self in
    let past = c.len-count.result - 1 - c.move_mark.result in
    subst (λ ks. MovesPast (g.K.PartialEq.eq c.args.key) ks (keys_of new) past)
    (c.free_place.ensures.keys ∙ same_keys c.self.view_is)
    (found_moves g.K.PartialEq.eq g.met.K.Eq.laws _ _ _ _ _ c.free_place.ensures.placed f new past
    puts.puts.entries (omega arith))

pub returns-in-Ok-None-clause-touched : goal.returns-in-Ok-None-clause-touched
returns-in-Ok-None-clause-touched g c =
    let adds = rw c.in-Ok-None.field-0-is at c.in-Ok-None.ensures.inserts in
    subst (λ ks. GoesLast g.K.PartialEq.eq ks (keys_of (entries_of c.insert.new.self)) c.args.key)
    (c.free_place.ensures.keys ∙ same_keys c.self.view_is)
    (absent_last g.K.PartialEq.eq g.met.K.Eq.laws _ _ _ _ adds.absent
    (c.in-Ok-None.ensures.added adds.absent))

pub returns-in-Err-clause-certain : goal.returns-in-Err-clause-certain
returns-in-Err-clause-certain g c there free =
    let refuses = rw c.in-Err.is at c.insert.ensures.inserts in
    let same = c.free_place.ensures.keys ∙ same_keys c.self.view_is in
    absurd (none_found (g.K.PartialEq.eq c.args.key) (entries_of c.free_place.new.places)
    refuses.may_refuse.absent (ap (list_any _) same ∙ there))
