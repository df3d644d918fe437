-- What is made of clones of the entries.
use Rattle.hashlink_model.proofs.Names.{◌≡◌, Bool, true, ◌&&◌, List, [], ◌∷◌, refl, sym, ap, ap₂, ◌∙◌}
use Rattle.hashlink_model.proofs.Distinct.{answers_alike, IsEntries-cons, IsEntries-head, IsEntries-tail}
use Rattle.hashlink_model.proofs.Names.{IsEquivalence, AllZip, NonePasses, IsEntries, extended, entries_eq}
use Rattle.hashlink_model.proofs.{Distinct.none_equal, Extends.extended-own}

module _ {K V : Type 0} (eq : K → K → Bool) (laws : IsEquivalence eq) (eqv : V → V → Bool) where
  none_cloned : (k : K) (xs ys : List (K × V))
      → AllZip (λ p q. (eq p.0 q.0 ≡ true) × (eqv p.1 q.1 ≡ true)) xs ys → NonePasses (eq k) xs
      → NonePasses (eq k) ys
  none_cloned k [] [] z n = tt
  none_cloned k [] (y ∷ ys) z n = absurd z
  none_cloned k (x ∷ xs) [] z n = absurd z
  none_cloned k (x ∷ xs) (y ∷ ys) z n =
      (sym (answers_alike eq laws k x.0 y.0 z.0.0) ∙ n.0, none_cloned k xs ys z.1 n.1)

  pub IsEntries-cloned : (xs ys : List (K × V)) → IsEntries eq xs
      → AllZip (λ p q. (eq p.0 q.0 ≡ true) × (eqv p.1 q.1 ≡ true)) xs ys → IsEntries eq ys
  IsEntries-cloned [] [] d z = d
  IsEntries-cloned [] (y ∷ ys) d z = absurd z
  IsEntries-cloned (x ∷ xs) [] d z = absurd z
  IsEntries-cloned (x ∷ xs) (y ∷ ys) d z =
      IsEntries-cons eq y ys
      (none_equal eq laws x.0 y.0 ys z.0.0 (none_cloned x.0 xs ys z.1 (IsEntries-head eq x xs d)))
      (IsEntries-cloned xs ys (IsEntries-tail eq x xs d) z.1)

  pub equal_cloned : (xs ys : List (K × V)) → AllZip (λ p q. (eq p.0 q.0 ≡ true) × (eqv p.1 q.1 ≡ true)) xs ys
      → entries_eq eq eqv xs ys ≡ true
  equal_cloned [] [] z = refl
  equal_cloned [] (y ∷ ys) z = absurd z
  equal_cloned (x ∷ xs) [] z = absurd z
  equal_cloned (x ∷ xs) (y ∷ ys) z = ap₂ ◌&&◌ (ap₂ ◌&&◌ z.0.0 z.0.1) (equal_cloned xs ys z.1)

  -- clones that are equal to the entries, inserted in turn into an empty list, give an equal list
  pub clone_is_equal : (es clones : List (K × V)) → IsEntries eq es
      → AllZip (λ p q. (eq p.0 q.0 ≡ true) × (eqv p.1 q.1 ≡ true)) es clones
      → entries_eq eq eqv es (extended eq [] clones) ≡ true
  clone_is_equal es clones d z =
      ap (entries_eq eq eqv es) (extended-own eq laws clones (IsEntries-cloned es clones d z))
      ∙ equal_cloned es clones z
