use Rattle.hashlink_curve.proofs.Names.{◌-◌, sym, ap, ◌∙◌, subst, arith, list_any, keys_of, entries_of}
use Rattle.hashlink_curve.proofs.Placing.{same_keys, none_found, Found, found, found_moves, found_placed}
use Rattle.hashlink_curve.proofs.{Names.{MovesPast, GoesLast}, recency.Recency.touch_with.Goals.In-Some}
use Rattle.hashlink_curve.proofs.Placing.{absent_last, free_at, placed_last, puts_distinct, puts_new}
use Rattle.hashlink_curve.proofs.recency.Recency.touch_with.Given as given
use Rattle.hashlink_curve.proofs.recency.Recency.touch_with.Goals as goal

pub returns-in_err-place-clause-certain : goal.returns-in_err-place-clause-certain
returns-in_err-place-clause-certain g c there free =
    let same = c.free_place.ensures.keys ∙ same_keys c.self.view_is in
    absurd (none_found (g.Q.Equivalent.matches c.args.query) (entries_of c.free_place.new.places)
    c.in_err-place.ensures.absent (ap (list_any _) same ∙ there))

-- the entry that the key had
was : (g : given.Over) (c : In-Some g)
    → Found g.K.PartialEq.eq g.met.K.Eq.laws (entries_of c.free_place.new.places) c.free_place.new.marks
    c.free_place.new.next c.in_ok-place.ensures.put.key c.in-Some.place
was g c =
    found g.K.PartialEq.eq g.met.K.Eq.laws _ _ _ _ _ c.free_place.ensures.placed
    (sym c.in_ok-place.ensures.put.found ∙ c.in-Some.is)

pub move_mark-requires : goal.move_mark-requires
move_mark-requires g c =
    let f = was g (goal.at.move_mark-requires g c).In-Some in
    let p = c.free_place.ensures.placed in
    let free = c.in_ok-free_place.ensures.free in
    record {
      within = (f.within, free);
      marked = f.marked;
      unmarked = free_at (entries_of c.free_place.new.places) _ _ p.rises p.marked free;
    }

pub mark-requires-clause-unmarked : goal.mark-requires-clause-unmarked
mark-requires-clause-unmarked g c =
    let p = c.free_place.ensures.placed in
    free_at (entries_of c.free_place.new.places) c.free_place.new.next c.free_place.new.marks p.rises p.marked
    c.in_ok-free_place.ensures.free

pub overflow_sub-others : goal.overflow_sub-others
overflow_sub-others g c =
    let f = was g (goal.at.overflow_sub-others g c).In-Some in
    omega (arith, c.move_mark.ensures.before _ c.free_place.ensures.placed.marked ∙ f.before, f.long)

pub overflow_sub-others-in-Some : goal.overflow_sub-others-in-Some
overflow_sub-others-in-Some g c =
    let f = was g (goal.at.overflow_sub-others-in-Some g c).In-Some in
    omega (arith, c.move_mark.ensures.before _ c.free_place.ensures.placed.marked ∙ f.before, f.long)

pub invariant_of-self-in-Some : goal.invariant_of-self-in-Some
invariant_of-self-in-Some g c =
    let eq = g.K.PartialEq.eq in
    let f = was g (goal.at.invariant_of-self-in-Some g c).In-Some in
    let p = c.in_ok-place.ensures.put in
    let placed = c.free_place.ensures.placed in
    let free = c.in_ok-free_place.ensures.free in
    found_placed eq g.met.K.Eq.laws _ _ _ _ _ placed f _ _ p.entries
    (puts_distinct eq g.met.K.Eq.laws p placed.distinct) c.move_mark.ensures.moved (omega arith)

pub invariant_of-self-in-None : goal.invariant_of-self-in-None
invariant_of-self-in-None g c =
    let eq = g.K.PartialEq.eq in
    let p = c.in_ok-place.ensures.put in
    let placed = c.free_place.ensures.placed in
    let free = c.in_ok-free_place.ensures.free in
    placed_last eq g.met.K.Eq.laws _ _ _ _ _ _ placed.rises placed.marked
    (puts_new eq g.met.K.Eq.laws p c.in-None.is) (puts_distinct eq g.met.K.Eq.laws p placed.distinct)
    c.mark.ensures.marked (omega arith)

pub returns-in-Some-clause-touched : goal.returns-in-Some-clause-touched
returns-in-Some-clause-touched g c =
    let eq = g.K.PartialEq.eq in
    let f = was g (goal.at.returns-in-Some-clause-touched g c).In-Some in
    let p = c.in_ok-place.ensures.put in
    let n = c.move_mark.ensures.before _ c.free_place.ensures.placed.marked ∙ f.before in
    let past = c.len-count.result - c.move_mark.result - 1 in
    let new = entries_of c.put_last.new.places in
    record {
      key = p.key;
      tells = p.tells;
      touched = subst (λ ks. MovesPast (eq p.key) ks (keys_of new) past)
          (c.free_place.ensures.keys ∙ same_keys c.self.view_is)
          (found_moves eq g.met.K.Eq.laws _ _ _ _ _ c.free_place.ensures.placed f new past p.entries
          (omega arith));
    }

pub returns-in-None-clause-touched : goal.returns-in-None-clause-touched
returns-in-None-clause-touched g c =
    let eq = g.K.PartialEq.eq in
    let p = c.in_ok-place.ensures.put in
    record {
      key = p.key;
      tells = p.tells;
      touched = subst (λ ks. GoesLast eq ks (keys_of (entries_of c.put_last.new.places)) p.key)
          (c.free_place.ensures.keys ∙ same_keys c.self.view_is)
          (absent_last eq g.met.K.Eq.laws _ _ _ _ (sym p.found ∙ c.in-None.is)
          (puts_new eq g.met.K.Eq.laws p c.in-None.is));
    }
