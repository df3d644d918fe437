-- Entries whose keys are pairwise unequal, split and joined at one entry.
use Rattle.hashlink_model.proofs.Names.{◌≡◌, Bool, true, false, List, [], ◌∷◌, ◌++◌, sym, ◌∙◌, IsEquivalence}
use Rattle.hashlink_model.proofs.Names.{AllByRecursion, keys_of, NonePasses, IsEntries}
use Rattle.std.specs.List.{IsDistinct}

module _ {X : Type 0} (P : X → Type 0) where
  pub each-middle : (xs : List X) (y : X) (ys : List X) → AllByRecursion P (xs ++ y ∷ ys)
      → P y × AllByRecursion P (xs ++ ys)
  each-middle [] y ys a = a
  each-middle (x ∷ xs) y ys a = let r = each-middle xs y ys a.1 in (r.0, (a.0, r.1))

  pub each-insert : (xs : List X) (y : X) (ys : List X) → P y → AllByRecursion P (xs ++ ys)
      → AllByRecursion P (xs ++ y ∷ ys)
  each-insert [] y ys p a = (p, a)
  each-insert (x ∷ xs) y ys p a = (a.0, each-insert xs y ys p a.1)

  pub each-append : (xs ys : List X) → AllByRecursion P xs → AllByRecursion P ys → AllByRecursion P (xs ++ ys)
  each-append [] ys a b = b
  each-append (x ∷ xs) ys a b = (a.0, each-append xs ys a.1 b)

  pub each-left : (xs ys : List X) → AllByRecursion P (xs ++ ys) → AllByRecursion P xs
  each-left [] ys a = tt
  each-left (x ∷ xs) ys a = (a.0, each-left xs ys a.1)

  pub each-right : (xs ys : List X) → AllByRecursion P (xs ++ ys) → AllByRecursion P ys
  each-right [] ys a = a
  each-right (x ∷ xs) ys a = each-right xs ys a.1

pub each-weaker : {X : Type 0} (P Q : X → Type 0) → ((x : X) → P x → Q x) → (xs : List X)
    → AllByRecursion P xs → AllByRecursion Q xs
each-weaker P Q f [] a = tt
each-weaker P Q f (x ∷ xs) a = (f x a.0, each-weaker P Q f xs a.1)

-- a test has the same result for equal keys
pub answers_alike : {K : Type 0} (eq : K → K → Bool) → IsEquivalence eq → (k a b : K) → eq a b ≡ true
    → eq k a ≡ eq k b
answers_alike eq laws k a b t = laws.symm k a ∙ laws.congr a b k t ∙ laws.symm b k

pub IsEntries-nil : {K : Type 0} (V : Type 0) (eq : K → K → Bool) → IsEntries {V = V} eq []
unfolding IsDistinct
IsEntries-nil V eq = tt

module _ {K V : Type 0} (eq : K → K → Bool) where
  to_keys : (k : K) (es : List (K × V)) → NonePasses (eq k) es
      → AllByRecursion (λ y. eq k y ≡ false) (keys_of es)
  to_keys k [] n = tt
  to_keys k (e ∷ es) n = (n.0, to_keys k es n.1)

  from_keys : (k : K) (es : List (K × V)) → AllByRecursion (λ y. eq k y ≡ false) (keys_of es)
      → NonePasses (eq k) es
  from_keys k [] n = tt
  from_keys k (e ∷ es) n = (n.0, from_keys k es n.1)

  pub IsEntries-cons : (e : K × V) (es : List (K × V)) → NonePasses (eq e.0) es → IsEntries eq es
      → IsEntries eq (e ∷ es)
  unfolding IsDistinct
  IsEntries-cons e es n d = (to_keys e.0 es n, d)

  pub IsEntries-head : (e : K × V) (es : List (K × V)) → IsEntries eq (e ∷ es) → NonePasses (eq e.0) es
  unfolding IsDistinct
  IsEntries-head e es d = from_keys e.0 es d.0

  pub IsEntries-tail : (e : K × V) (es : List (K × V)) → IsEntries eq (e ∷ es) → IsEntries eq es
  unfolding IsDistinct
  IsEntries-tail e es d = d.1

  -- an equal key passes the same test
  pub none_equal : IsEquivalence eq → (k q : K) (es : List (K × V)) → eq k q ≡ true → NonePasses (eq k) es
      → NonePasses (eq q) es
  none_equal laws k q es t n = each-weaker _ _ (λ x h. sym (laws.congr k q x.0 t) ∙ h) es n

  -- ---- in the middle of a list

  module _ (laws : IsEquivalence eq) where
    pub none_others : (xs : List (K × V)) (e : K × V) (ys : List (K × V)) → IsEntries eq (xs ++ e ∷ ys)
        → NonePasses (eq e.0) (xs ++ ys)
    none_others [] e ys d = IsEntries-head e ys d
    none_others (x ∷ xs) e ys d =
        let apart = (each-middle _ xs e ys (IsEntries-head x (xs ++ e ∷ ys) d)).0 in
        (laws.symm e.0 x.0 ∙ apart, none_others xs e ys (IsEntries-tail x (xs ++ e ∷ ys) d))

    pub IsEntries-middle : (xs : List (K × V)) (e : K × V) (ys : List (K × V)) → IsEntries eq (xs ++ e ∷ ys)
        → IsEntries eq (xs ++ ys)
    IsEntries-middle [] e ys d = IsEntries-tail e ys d
    IsEntries-middle (x ∷ xs) e ys d =
        IsEntries-cons x (xs ++ ys) (each-middle _ xs e ys (IsEntries-head x (xs ++ e ∷ ys) d)).1
        (IsEntries-middle xs e ys (IsEntries-tail x (xs ++ e ∷ ys) d))

    pub IsEntries-insert : (xs : List (K × V)) (e : K × V) (ys : List (K × V))
        → NonePasses (eq e.0) (xs ++ ys) → IsEntries eq (xs ++ ys) → IsEntries eq (xs ++ e ∷ ys)
    IsEntries-insert [] e ys n d = IsEntries-cons e ys n d
    IsEntries-insert (x ∷ xs) e ys n d =
        IsEntries-cons x (xs ++ e ∷ ys)
        (each-insert _ xs e ys (laws.symm x.0 e.0 ∙ n.0) (IsEntries-head x (xs ++ ys) d))
        (IsEntries-insert xs e ys n.1 (IsEntries-tail x (xs ++ ys) d))
