-- The list of a curve's falls.
use Rattle.hashlink_curve.proofs.Names.{◌≡◌, ℕ, suc, ◌+◌, ◌-◌, ◌≤◌, ◌<◌, ◌⊎◌, inl, inr, Bool, true, false}
use Rattle.hashlink_curve.proofs.Names.{cond, List, [], ◌∷◌, length, drop, refl, sym, ap, ◌∙◌, arith, nat_eq}
use Rattle.hashlink_curve.proofs.Names.{sum, All, drop-nil, nat_tests, sum_by-cons, CurveState, ListsFalls}
use Rattle.hashlink_curve.proofs.Names.{falls_from, misses_at}
use Rattle.std.{specs.Prelude.{AllPairs, Contains}, proofs.Math.Nat.eq-or-lt_of_le}
use Rattle.std.proofs.lemmas.List.{Elements.{All-nil, All-cons}, Kept.AllPairs-cons}

module _ (f : ℕ → ℕ) where
  -- the misses at the item's capacity, which is above c, are fewer than at the capacity before
  abbrev FallsAbove : ℕ → ℕ × ℕ → Type 0
  FallsAbove c item = (c < item.0) × (item.1 ≡ f item.0) × (item.1 < f (item.0 - 1))

  -- the falls from c on
  record ListsFrom (c : ℕ) (items : List (ℕ × ℕ)) : Type 0 where
    each : All (FallsAbove c) items
    every : (i : ℕ) → c ≤ i → f (i + 1) < f i → Contains items (i + 1, f (i + 1))
    rising : AllPairs (λ a b. a.0 < b.0) items

  -- the curve from c on, where `cold` are never hits
  abbrev IsLeft : ℕ → ℕ → List ℕ → Type 0
  IsLeft cold c ns = (j : ℕ) → f (c + j) ≡ cold + sum (drop j ns)

  left_after : (cold c n : ℕ) (ns : List ℕ) → IsLeft cold c (n ∷ ns) → IsLeft cold (c + 1) ns
  left_after cold c n ns h j =
      let at : c + 1 + j ≡ c + suc j = omega arith in
      ap f at ∙ h (suc j)

  level_at : (cold c i : ℕ) → IsLeft cold c [] → c ≤ i → f i ≡ cold
  level_at cold c i h l =
      let at : i ≡ c + (i - c) = omega arith in
      let is : f i ≡ cold + sum (drop (i - c) []) = ap f at ∙ h (i - c) in
      omega (arith, ap sum (drop-nil {A = ℕ} (i - c)))

  -- the values at c + 1 and at c
  first_step : (cold c n : ℕ) (ns : List ℕ) → IsLeft cold c (n ∷ ns)
      → (f (c + 1) ≡ cold + sum ns) × (f c ≡ f (c + 1) + n)
  first_step cold c n ns h =
      let next : f (c + 1) ≡ cold + sum ns = h 1 in
      let here : f (c + 0) ≡ cold + sum (n ∷ ns) = h 0 in
      let at : c + 0 ≡ c = omega arith in
      (next, omega (arith, sum_by-cons (λ (m : ℕ). m) n ns, ap f at))

  above : (c : ℕ) (items : List (ℕ × ℕ)) → All (FallsAbove (c + 1)) items → All (FallsAbove c) items
  above c items each k d l = let r = each k d l in (omega (arith, r.0), r.1, r.2)

  lists_by : (b : Bool) (cold c n : ℕ) (ns : List ℕ) (items : List (ℕ × ℕ)) → nat_eq n 0 ≡ b
      → (f (c + 1) ≡ cold + sum ns) × (f c ≡ f (c + 1) + n) → ListsFrom (c + 1) items
      → ListsFrom c (cond b items ((c + 1, cold + sum ns) ∷ items))
  lists_by true cold c n ns items zero_uses h rest =
      record {
        each = above c items rest.each;
        every = λ i l fall. every_by i (eq-or-lt_of_le l) fall;
        rising = rest.rising;
      }
    where
      every_by : (i : ℕ) → (c ≡ i) ⊎ (c < i) → f (i + 1) < f i → Contains items (i + 1, f (i + 1))
      every_by i (inl e) fall =
          let none : n ≡ 0 = grind (arith, nat_tests, zero_uses) in
          absurd (omega (arith, h.1, ap f e, ap (λ (m : ℕ). f (m + 1)) e))
      every_by i (inr l) fall = rest.every i (omega arith) fall
  lists_by false cold c n ns items some_uses h rest =
      record {
        each = All-cons (FallsAbove c) (c + 1, cold + sum ns) items first_falls (above c items rest.each);
        every = λ i l fall. every_by i (eq-or-lt_of_le l) fall;
        rising = AllPairs-cons (λ a b. a.0 < b.0) (c + 1, cold + sum ns) items
            (λ k d l. (rest.each k d l).0) rest.rising;
      }
    where
      first_falls : FallsAbove c (c + 1, cold + sum ns)
      first_falls =
          let some : 0 < n = grind (arith, nat_tests, some_uses) in
          let at : c + 1 - 1 ≡ c = omega arith in
          (omega arith, sym h.0, omega (arith, h.0, h.1, ap f at))

      every_by : (i : ℕ) → (c ≡ i) ⊎ (c < i) → f (i + 1) < f i
          → Contains ((c + 1, cold + sum ns) ∷ items) (i + 1, f (i + 1))
      every_by i (inl e) fall =
          (0, omega arith, ap (λ m. (c + 1, m)) (sym h.0) ∙ ap (λ (m : ℕ). (m + 1, f (m + 1))) e)
      every_by i (inr l) fall =
          let later = rest.every i (omega arith) fall in (suc later.0, omega (arith, later.1), later.2)

  lists_from : (cold c : ℕ) (ns : List ℕ) → IsLeft cold c ns → ListsFrom c (falls_from cold c ns)
  lists_from cold c [] h =
      record {
        each = All-nil (FallsAbove c);
        every = λ i l fall.
            let a = level_at cold c i h l in
            let b = level_at cold c (i + 1) h (omega arith) in
            absurd (omega arith);
        rising = λ i j d l m. absurd (omega arith);
      }
  lists_from cold c (n ∷ ns) h =
      lists_by (nat_eq n 0) cold c n ns (falls_from cold (c + 1) ns) refl (first_step cold c n ns h)
      (lists_from cold (c + 1) ns (left_after cold c n ns h))

-- the falls of a curve
pub lists_falls : {K : Type 0} (s : CurveState K) → ListsFalls s (falls_from (length s.keys) 0 s.reuses)
lists_falls s =
    let all = lists_from (misses_at s) (length s.keys) 0 s.reuses
    (λ j. ap (λ n. length s.keys + sum (drop n s.reuses)) (omega arith)) in
    record { each = all.each; every = λ c fall. all.every c (omega arith) fall; rising = all.rising }
