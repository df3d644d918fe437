-- The laws of the comparisons of maps, from those of their keys and values.
use Rattle.std.proofs.Common.{Option, Some, ◌≡◌, Bool, true, ◌&&◌, List, [], ◌∷◌, ◌++◌, refl, sym, ap₂}
use Rattle.std.specs.Cmp.{IsEquivalence, IsPartialEquivalence, IsPartialOrder, IsTotalOrder, on_per, and_per}
use Rattle.std.proofs.{Common.{true≢false, arith}, lemmas.Bool.and_parts}
use Rattle.std.specs.Cmp.{on_po, then_po, on_equiv, on_total, and_equiv, then_total}
use Rattle.std.specs.Cmp.Lexicographic.{lists_per, lists_po, lists_equiv, lists_total, lists_ties}
use Rattle.std.specs.{Ordering.{eq_by_cmp, ordering_then}, declared.cmp.Ordering.Ordering}
use Rattle.hashlink_model.specs.Compare.{entries_eq, entries_cmp, entries_partial_cmp, entries_hash_input}
use Rattle.hashlink_model.specs.Compare.{elements_eq, elements_hash_input}

module _ {T : Type 0} where
  pub elements_alike : {W : Type 0} (eq : T → T → Bool) (hash : T → List W)
      → ((x y : T) → eq x y ≡ true → hash x ≡ hash y) → (xs ys : List T) → elements_eq eq xs ys ≡ true
      → elements_hash_input hash xs ≡ elements_hash_input hash ys
  elements_alike eq hash a [] [] e = refl
  elements_alike eq hash a [] (y ∷ ys) e = absurd (true≢false (sym e))
  elements_alike eq hash a (x ∷ xs) [] e = absurd (true≢false (sym e))
  elements_alike eq hash a (x ∷ xs) (y ∷ ys) e =
      let parts = and_parts (eq x y) (elements_eq eq xs ys) e in
      ap₂ ◌++◌ (a x y parts.0) (elements_alike eq hash a xs ys parts.1)

module _ {K V : Type 0} where
  pub entries_eq_equiv : (eqk : K → K → Bool) (eqv : V → V → Bool) → IsEquivalence eqk → IsEquivalence eqv
      → IsEquivalence (entries_eq eqk eqv)
  entries_eq_equiv eqk eqv a b =
      lists_equiv (and_equiv (on_equiv (λ (p : K × V). p.0) a) (on_equiv (λ (p : K × V). p.1) b))

  pub entries_eq_partial : (eqk : K → K → Bool) (eqv : V → V → Bool) → IsPartialEquivalence eqk
      → IsPartialEquivalence eqv → IsPartialEquivalence (entries_eq eqk eqv)
  entries_eq_partial eqk eqv a b =
      lists_per (and_per (on_per (λ (p : K × V). p.0) a) (on_per (λ (p : K × V). p.1) b))

  pub entries_partial_order : (eqk : K → K → Bool) (eqv : V → V → Bool) (partk : K → K → Option Ordering)
      (partv : V → V → Option Ordering) → IsPartialOrder eqk partk → IsPartialOrder eqv partv
      → IsPartialOrder (entries_eq eqk eqv) (entries_partial_cmp partk partv)
  entries_partial_order eqk eqv partk partv a b =
      lists_po (then_po (on_po (λ (p : K × V). p.0) a) (on_po (λ (p : K × V). p.1) b))

  pub entries_cmp_total : (cmpk : K → K → Ordering) (cmpv : V → V → Ordering) → IsTotalOrder cmpk
      → IsTotalOrder cmpv → IsTotalOrder (entries_cmp cmpk cmpv)
  entries_cmp_total cmpk cmpv a b =
      lists_total (then_total (on_total (λ (p : K × V). p.0) a) (on_total (λ (p : K × V). p.1) b))

  pub entries_ties : (eqk : K → K → Bool) (eqv : V → V → Bool) (cmpk : K → K → Ordering)
      (cmpv : V → V → Ordering) → ((x y : K) → eqk x y ≡ eq_by_cmp cmpk x y)
      → ((x y : V) → eqv x y ≡ eq_by_cmp cmpv x y)
      → (xs ys : List (K × V)) → entries_eq eqk eqv xs ys ≡ eq_by_cmp (entries_cmp cmpk cmpv) xs ys
  entries_ties eqk eqv cmpk cmpv a b =
      lists_ties (λ p q. ordering_then (cmpk p.0 q.0) (cmpv p.1 q.1))
      (λ p q. grind (arith, a p.0 q.0, b p.1 q.1))

  -- equal entries feed a hasher alike, if equal keys and equal values do
  pub entries_alike : {W : Type 0} (eqk : K → K → Bool) (eqv : V → V → Bool) (hashk : K → List W)
      (hashv : V → List W)
      → ((x y : K) → eqk x y ≡ true → hashk x ≡ hashk y) → ((x y : V) → eqv x y ≡ true → hashv x ≡ hashv y)
      → (xs ys : List (K × V)) → entries_eq eqk eqv xs ys ≡ true
      → entries_hash_input hashk hashv xs ≡ entries_hash_input hashk hashv ys
  entries_alike eqk eqv hashk hashv a b =
      elements_alike (λ p q. eqk p.0 q.0 && eqv p.1 q.1) (λ e. hashk e.0 ++ hashv e.1) (λ x y e.
      let parts = and_parts (eqk x.0 y.0) (eqv x.1 y.1) e in
      ap₂ ◌++◌ (a x.0 y.0 parts.0) (b x.1 y.1 parts.1))

  -- if equal keys are the same, and equal values too, then equal lists of entries are the same
  pub entries_eq_same : (eqk : K → K → Bool) (eqv : V → V → Bool) → ((x y : K) → eqk x y ≡ true → x ≡ y)
      → ((x y : V) → eqv x y ≡ true → x ≡ y) → (xs ys : List (K × V)) → entries_eq eqk eqv xs ys ≡ true
      → xs ≡ ys
  entries_eq_same eqk eqv a b [] [] e = refl
  entries_eq_same eqk eqv a b [] (y ∷ ys) e = absurd (true≢false (sym e))
  entries_eq_same eqk eqv a b (x ∷ xs) [] e = absurd (true≢false (sym e))
  entries_eq_same eqk eqv a b (x ∷ xs) (y ∷ ys) e =
      let parts = and_parts (eqk x.0 y.0 && eqv x.1 y.1) (entries_eq eqk eqv xs ys) e in
      let pair = and_parts (eqk x.0 y.0) (eqv x.1 y.1) parts.0 in
      λ i. (a x.0 y.0 pair.0 i, b x.1 y.1 pair.1 i) ∷ entries_eq_same eqk eqv a b xs ys parts.1 i

  pub entries_partial : (partk : K → K → Option Ordering) (partv : V → V → Option Ordering)
      (cmpk : K → K → Ordering) (cmpv : V → V → Ordering) → ((x y : K) → partk x y ≡ Some (cmpk x y))
      → ((x y : V) → partv x y ≡ Some (cmpv x y))
      → (xs ys : List (K × V)) → entries_partial_cmp partk partv xs ys ≡ Some (entries_cmp cmpk cmpv xs ys)
  entries_partial partk partv cmpk cmpv a b [] [] = refl
  entries_partial partk partv cmpk cmpv a b [] (y ∷ ys) = refl
  entries_partial partk partv cmpk cmpv a b (x ∷ xs) [] = refl
  entries_partial partk partv cmpk cmpv a b (x ∷ xs) (y ∷ ys) =
      grind (arith, a x.0 y.0, b x.1 y.1, entries_partial partk partv cmpk cmpv a b xs ys)

pub ruleset lists = (lists_per, lists_equiv)

pub ruleset equalities = (entries_eq_equiv, entries_eq_same, entries_eq_partial, elements_alike, lists)

pub ruleset orders = (entries_cmp_total, entries_ties, entries_partial, entries_partial_order, entries_alike)

pub ruleset comparisons = (equalities, orders)
