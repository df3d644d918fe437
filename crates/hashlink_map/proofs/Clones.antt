-- Facts about clones of a map's pairs.
use Rattle.hashlink_map.proofs.Names.{◌≡◌, Bool, true, List, [], ◌∷◌, ◌++◌, refl, ap, ap₂, ◌∙◌, IfOk, OnErr}
use Rattle.hashlink_map.proofs.Names.{MatchResult, IsEquivalence, entries_eq, IsEntries, extended, MadeFrom}
use Rattle.hashlink_map.proofs.Names.{InsertsPair, MapState, empty_map, clone_is_equal, extended-own}
use Rattle.hashlink_map.proofs.Names.{accepts_entries, ArePairClones, IsOfPairClones}
use Rattle.std.proofs.Common.{Result, Ok, Err}

module _ {K V : Type 0} (clones-key : K → K → Type 0) (clones-value : V → V → Type 0) where
  -- one more clone
  pub cloned_another : (xs ys : List (K × V)) (x y : K × V) → ArePairClones clones-key clones-value xs ys
      → clones-key x.0 y.0
      → clones-value x.1 y.1
      → ArePairClones clones-key clones-value (xs ++ x ∷ []) (ys ++ y ∷ [])
  cloned_another [] [] x y z k v = ((k, v), tt)
  cloned_another [] (b ∷ ys) x y z k v = absurd z
  cloned_another (a ∷ xs) [] x y z k v = absurd z
  cloned_another (a ∷ xs) (b ∷ ys) x y z k v = (z.0, cloned_another xs ys x y z.1 k v)

  -- if clones have a property of their source, so have the clones of pairs
  clones_weaken : (P : K → K → Type 0) (Q : V → V → Type 0) → ((x y : K) → clones-key x y → P x y)
      → ((x y : V) → clones-value x y → Q x y) → (xs ys : List (K × V))
      → ArePairClones clones-key clones-value xs ys
      → ArePairClones P Q xs ys
  clones_weaken P Q f g [] [] z = tt
  clones_weaken P Q f g [] (b ∷ ys) z = absurd z
  clones_weaken P Q f g (a ∷ xs) [] z = absurd z
  clones_weaken P Q f g (a ∷ xs) (b ∷ ys) z =
      ((f a.0 b.0 z.0.0, g a.1 b.1 z.0.1), clones_weaken P Q f g xs ys z.1)

  clones_same : ((x y : K) → clones-key x y → y ≡ x) → ((x y : V) → clones-value x y → y ≡ x)
      → (xs ys : List (K × V))
      → ArePairClones clones-key clones-value xs ys
      → ys ≡ xs
  clones_same f g [] [] z = refl
  clones_same f g [] (b ∷ ys) z = absurd z
  clones_same f g (a ∷ xs) [] z = absurd z
  clones_same f g (a ∷ xs) (b ∷ ys) z =
      ap₂ (λ p ps. p ∷ ps) (ap₂ (λ k v. (k, v)) (f a.0 b.0 z.0.0) (g a.1 b.1 z.0.1))
      (clones_same f g xs ys z.1)

  module _ {S : Type 0} (eq : K → K → Bool) (laws : IsEquivalence eq) (es clones : List (K × V)) (s : S)
      (m : MapState K V S) (distinct : IsEntries eq es) (z : ArePairClones clones-key clones-value es clones)
      (made : MadeFrom (InsertsPair eq) clones s m) where
    pub clone_equal : (eqv : V → V → Bool) → ((x y : K) → clones-key x y → eq x y ≡ true)
        → ((x y : V) → clones-value x y → eqv x y ≡ true)
        → entries_eq eq eqv es m.entries ≡ true
    clone_equal eqv f g =
        ap (entries_eq eq eqv es) (accepts_entries eq (empty_map s) m clones made)
        ∙ clone_is_equal eq laws eqv es clones distinct
        (clones_weaken (λ x y. eq x y ≡ true) (λ x y. eqv x y ≡ true) f g es clones z)

    pub clone_same : ((x y : K) → clones-key x y → y ≡ x) → ((x y : V) → clones-value x y → y ≡ x)
        → m.entries ≡ es
    clone_same f g =
        accepts_entries eq (empty_map s) m clones made
        ∙ ap (extended eq []) (clones_same f g es clones z)
        ∙ extended-own eq laws es distinct

  -- the clause of std's trait about a clone, by its result, for what contains a map
  pub clone_by_answer : {S M E : Type 0} (eq : K → K → Bool) (H : S → Type 0) (sure : Type 0)
      (es : List (K × V)) (view : M → MapState K V S) (r : Result M E)
      → IfOk r (λ m. (s : S) × H s × (clones : List (K × V)) × ArePairClones clones-key clones-value es clones
      × MadeFrom (InsertsPair eq) clones s (view m))
      → OnErr r (sure → es ≡ [] → ⊥)
      → ((eqv : V → V → Bool) → ((x y : K) → clones-key x y → eq x y ≡ true)
      → ((x y : V) → clones-value x y → eqv x y ≡ true)
      → IfOk r (λ m. entries_eq eq eqv es (view m).entries ≡ true))
      → (((x y : K) → clones-key x y → y ≡ x) → ((x y : V) → clones-value x y → y ≡ x)
      → IfOk r (λ m. (view m).entries ≡ es))
      → MatchResult r (λ m. IsOfPairClones eq clones-key clones-value H es (view m)) (λ _. ¬ (sure × es ≡ []))
  clone_by_answer eq H sure es view (Ok m) made refused equal same = record {
    hash_builder = made.0;
    hasher = made.1;
    clones = made.2;
    cloned = made.3;
    made = made.4;
    equal = equal;
    same = same;
  }
  clone_by_answer eq H sure es view (Err e) made refused equal same = λ both. refused both.0 both.1
