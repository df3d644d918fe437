-- Sums of weights after an entry left, was inserted last or moved last.
use Rattle.std.proofs.Common.{◌≡◌, ℕ, ◌+◌, ◌-◌, ◌≤◌, Bool, List, [], ◌∷◌, ◌++◌, length, Option, None, Some}
use Rattle.std.proofs.{Common.{refl, sym, ap, subst, ◌∙◌, arith}, lemmas.Option.same_Some}
use Rattle.std.specs.Map.{lookup, lookup_entry, remove_entry}
use Rattle.std.proofs.lemmas.List.Sums.{sum_by-cons, sum_by-append}
use Rattle.hashlink_model.proofs.Splits.{stands_from_lookup, none_from_lookup, remove_entry-none}
use Rattle.hashlink_model.specs.{Entries.{put, moved_match, without, stored_key}, MapState.MapState}
use Rattle.hashlink_model.specs.{Steps.{RemovesMatch, MovesMatch}, Weights.total_weight}
use Rattle.hashlink_model.proofs.{Splits.{remove_entry-here, lookup-here}, Afterwards.moved-there}
use Rattle.hashlink_model.proofs.Puts.{put_back}
use Rattle.hashlink_map.proofs.Outcomes.{removes_entries}
use Rattle.hashlink_weighted.specs.Weighed.{HasTotal, LastWeighs, weight_or_none}

module _ {K V : Type 0} where
  pub total-cons : (e : K × (V × ℕ)) (es : List (K × (V × ℕ))) → total_weight (e ∷ es)
      ≡ e.1.1 + total_weight es
  total-cons e es = sum_by-cons (λ x. x.1.1) e es

  pub total-append : (xs ys : List (K × (V × ℕ))) → total_weight (xs ++ ys)
      ≡ total_weight xs + total_weight ys
  total-append xs ys = sum_by-append (λ x. x.1.1) xs ys

module _ {K V : Type 0} (test : K → Bool) where
  -- the sum without an entry is less by its weight
  pub total-without : (es : List (K × (V × ℕ))) (o : Option (V × ℕ)) → lookup test es ≡ o
      → total_weight (remove_entry test es) + weight_or_none o ≡ total_weight es
  total-without es None l =
      let same = ap total_weight (remove_entry-none test es (none_from_lookup test es l)) in omega arith
  total-without es (Some w) l =
      let s = stands_from_lookup test es w l in
      let here = lookup-here test s.1 s.2 s.3.passes s.0 s.3.before in
      let same : s.1.1 ≡ w = same_Some _ _ (sym here ∙ ap (lookup test) (sym s.3.is) ∙ l) in
      let weight : s.1.1.1 ≡ w.1 = ap (λ x. x.1) same in
      let all = ap total_weight s.3.is in
      let left = ap (λ zs. total_weight (remove_entry test zs)) s.3.is in
      let rest = ap total_weight (remove_entry-here test s.1 s.2 s.3.passes s.0 s.3.before) in
      omega (arith, total-append s.0 (s.1 ∷ s.2), total-append s.0 s.2, total-cons s.1 s.2)

module _ {K V : Type 0} (eq : K → K → Bool) where
  -- inserted last, after the other entries
  pub last_weighs : (es : List (K × (V × ℕ))) (k : K) (w : V × ℕ) (o : Option (V × ℕ)) (total : ℕ)
      → lookup (eq k) es ≡ o → total ≡ total_weight es
      → LastWeighs (put eq es k w (length es)) (total - weight_or_none o) w.1
  last_weighs es k w o total l t =
      let rest = total-without (eq k) es o l in
      record {
        before = without eq es k;
        last = (stored_key eq es k, w);
        split = put_back eq es k w;
        others_weigh = omega arith;
        last_weighs = refl;
      }

-- a move does not change the sum
total-moved : {K V : Type 0} (test : K → Bool) (es : List (K × (V × ℕ))) (w : V × ℕ) → lookup test es ≡ Some w
    → total_weight (moved_match test es (length es)) ≡ total_weight es
total-moved {K} test es w l =
    let eq = λ (_ : K). test in
    let k = (stands_from_lookup test es w l).1.0 in
    let there : total_weight (moved_match test es (length es)) ≡ total_weight (put eq es k w (length es)) =
    ap total_weight (moved-there eq es k (length es) w l) in
    let split = ap total_weight (put_back eq es k w) in
    let a = total-append (without eq es k) ((stored_key eq es k, w) ∷ []) in
    omega (arith, total-cons (stored_key eq es k, w) [], total-without test es (Some w) l)

module _ {K V S : Type 0} (test : K → Bool) (old new : MapState K (V × ℕ) S) (total budget : ℕ) where
  -- a removal lowers the total by the weight of the removed entry, or not at all if none was found
  pub removes_weight : (w : V × ℕ) → Some w ≡ lookup test old.entries
      → RemovesMatch test old new (lookup_entry test old.entries)
      → HasTotal old.entries total budget
      → (w.1 ≤ total) × HasTotal new.entries (total - w.1) budget
  removes_weight w l s t =
      let rest = total-without test old.entries (Some w) (sym l) in
      let left = ap total_weight (removes_entries old new test _ s) in
      let sum = t.sum in
      let within = t.within in
      (omega arith, record { sum = omega arith; within = omega arith })

  pub removes_none : None ≡ lookup test old.entries
      → RemovesMatch test old new (lookup_entry test old.entries)
      → HasTotal old.entries total budget
      → HasTotal new.entries total budget
  removes_none l s t =
      let rest = total-without test old.entries None (sym l) in
      let left = ap total_weight (removes_entries old new test _ s) in
      let sum = t.sum in
      record { sum = omega arith; within = t.within }

  -- a move to the end does not change the total
  pub moves_total : (r : Option (V × ℕ)) → MovesMatch test old new (length old.entries) r
      → HasTotal old.entries total budget
      → HasTotal new.entries total budget
  moves_total None s t = subst (λ m. HasTotal m.entries total budget) (sym s.step) t
  moves_total (Some w) s t =
      let same = ap total_weight s.step.entries in
      let moved = total-moved test old.entries w (sym s.answer) in
      let sum = t.sum in
      record { sum = omega arith; within = t.within }
