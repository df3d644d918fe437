-- The longest end of the entries within a budget.
use Rattle.hashlink_model.proofs.Names.{◌≡◌, ℕ, ◌≤◌, Bool, true, false, cond, List, [], ◌∷◌, ◌++◌, length}
use Rattle.hashlink_model.proofs.Names.{refl, ◌∙◌, ap, arith, le_refl, length-append, IsEntries, without}
use Rattle.hashlink_model.proofs.{Names.{stored_key, Option, nat_tests}, Distinct.IsEntries-tail}
use Rattle.hashlink_model.proofs.{Puts.put_back, CacheSteps.put_entries}
use Rattle.hashlink_model.specs.Weights.{WeightedState, WeightedInserts, total_weight, fitting, weighted_put}
use Rattle.std.proofs.Common.{zero-le, nat_le, le-leb}

module _ {K V : Type 0} where
  pub fitting-fits : (es : List (K × (V × ℕ))) (budget : ℕ) → total_weight (fitting es budget) ≤ budget
  fitting-fits [] budget = zero-le
  fitting-fits (e ∷ es) budget = grind (arith, nat_tests, fitting-fits es budget)

  pub fitting-end : (es : List (K × (V × ℕ))) (budget : ℕ) → (xs : List (K × (V × ℕ)))
      × (es ≡ xs ++ fitting es budget)
  fitting-end [] budget = ([], refl)
  fitting-end (e ∷ es) budget =
      let s = fitting-end es budget in
      elim (nat_le (total_weight (e ∷ es)) budget)
      as (λ b. (xs : List (K × (V × ℕ))) × (e ∷ es ≡ xs ++ cond b (e ∷ es) (fitting es budget)))
      [ true ↦ ([], refl) | false ↦ (e ∷ s.0, ap (λ r. e ∷ r) s.1) ]

  -- ---- no longer end fits

  pub fitting-whole : (es : List (K × (V × ℕ))) (budget : ℕ) → total_weight es ≤ budget
      → fitting es budget ≡ es
  fitting-whole [] budget h = refl
  fitting-whole (e ∷ es) budget h = rw (le-leb (total_weight (e ∷ es)) budget h) refl

  pub fitting-longest : (xs ys : List (K × (V × ℕ))) (budget : ℕ) → total_weight ys ≤ budget
      → length ys ≤ length (fitting (xs ++ ys) budget)
  fitting-longest [] ys budget h = rw (fitting-whole ys budget h) (le_refl (length ys))
  fitting-longest (x ∷ xs) ys budget h = grind (arith, fitting-longest xs ys budget h, length-append xs ys)

  pub IsEntries-fitting : (eq : K → K → Bool) (es : List (K × (V × ℕ))) (budget : ℕ) → IsEntries eq es
      → IsEntries eq (fitting es budget)
  IsEntries-fitting eq [] budget d = d
  IsEntries-fitting eq (e ∷ es) budget d =
      grind (arith, d, IsEntries-fitting eq es budget (IsEntries-tail eq e es d))

module _ {K V : Type 0} (eq : K → K → Bool) where
  -- a pair that is not too heavy stays
  pub length-weighted_put : (es : List (K × (V × ℕ))) (budget : ℕ) (k : K) (v : V) (weight : ℕ)
      → weight ≤ budget → 1 ≤ length (weighted_put eq es budget k v weight)
  length-weighted_put es budget k v weight l =
      let last = (stored_key eq es k, (v, weight)) ∷ [] in
      let fits : total_weight last ≤ budget = omega arith in
      rw (put_back eq es k (v, weight))
      (fitting-longest (without eq es k) ((stored_key eq es k, (v, weight)) ∷ []) budget fits)

-- ---- the steps

module _ {K V S : Type 0} (eq : K → K → Bool) (old new : WeightedState K V S) (k : K) (v : V) (weight : ℕ)
    (w : Option (V × ℕ)) where
  pub weighted_entries : WeightedInserts eq old new k v weight w
      → new.map.entries ≡ weighted_put eq old.map.entries old.budget k v weight
  weighted_entries s =
      s.keeps.entries ∙ ap (λ es. fitting es old.budget)
      (put_entries eq old.map s.between k (v, weight) w s.inserts)

  pub weighted_total : WeightedInserts eq old new k v weight w → total_weight new.map.entries ≤ new.budget
  weighted_total s = omega (arith, ap total_weight s.keeps.entries, fitting-fits s.between.entries old.budget)

pub ruleset fits = (fitting-fits, fitting-end, fitting-longest, IsEntries-fitting)

pub ruleset weighted = (fits, length-weighted_put, weighted_total)
