-- Entries by their places.
use Rattle.hashlink_model.proofs.Names.{◌≡◌, ℕ, zero, suc, Bool, true, List, [], ◌∷◌, ◌++◌, length, slice_get}
use Rattle.hashlink_model.proofs.Names.{Some, ap, refl, ◌∙◌, subst, arith, IsEquivalence, lookup_entry}
use Rattle.hashlink_model.proofs.Names.{NonePasses, none-some, same_Some, IsEntries, place_of, place_or_end}
use Rattle.hashlink_model.{proofs.Names.{stored_key, ◌-◌, ◌≤◌, length-append}, specs.Walk.last_of}
use Rattle.hashlink_model.proofs.{Splits.{place_of-here, lookup_entry-here}, Finds.lookup_key_is}
use Rattle.hashlink_model.proofs.Distinct.{none_equal, none_others, each-left}

module _ {X : Type 0} where
  pub slice_get_here : (xs : List X) (x : X) (ys : List X) → slice_get (xs ++ x ∷ ys) (length xs) ≡ Some x
  slice_get_here [] x ys = refl
  slice_get_here (z ∷ xs) x ys = slice_get_here xs x ys

  -- the last of a list
  pub last_of-end : (xs : List X) (x : X) → last_of (xs ++ x ∷ []) ≡ Some x
  last_of-end xs x =
      let n : length (xs ++ x ∷ []) - 1 ≡ length xs = omega (arith, length-append xs (x ∷ [])) in
      rw (n, slice_get_here xs x []) refl

  -- an end of a list has the same last
  pub last_of-append : (xs ys : List X) → 1 ≤ length ys → last_of (xs ++ ys) ≡ last_of ys
  last_of-append [] ys some = refl
  last_of-append (x ∷ xs) ys some =
      let l = length-append xs ys in
      let n : length (x ∷ (xs ++ ys)) - 1 ≡ suc (length (xs ++ ys) - 1) = omega arith in
      ap (slice_get (x ∷ (xs ++ ys))) n ∙ last_of-append xs ys some

  -- a list split at a place
  pub split_at : (xs : List X) (i : ℕ) (x : X) → slice_get xs i ≡ Some x
      → (us : List X) × (vs : List X) × (xs ≡ us ++ x ∷ vs) × (length us ≡ i)
  split_at [] i x e = absurd (none-some x e)
  split_at (y ∷ xs) zero x e = ([], xs, ap (λ z. z ∷ xs) (same_Some y x e), refl)
  split_at (y ∷ xs) (suc i) x e = let s = split_at xs i x e in (y ∷ s.0, s.1, ap (λ r. y ∷ r) s.2, ap suc s.3)

module _ {K V : Type 0} (eq : K → K → Bool) where
  pub slice_get-place_or_end : (q : K) (es : List (K × V))
      → slice_get es (place_or_end eq es q) ≡ lookup_entry (eq q) es
  slice_get-place_or_end q [] = refl
  slice_get-place_or_end q (e ∷ es) = grind (arith, slice_get-place_or_end q es)

module _ {K V : Type 0} (eq : K → K → Bool) (laws : IsEquivalence eq) where
  -- no entry before e has a key equal to e's, nor does an entry after it
  pub none_before : (xs : List (K × V)) (e : K × V) (ys : List (K × V)) (q : K) → IsEntries eq (xs ++ e ∷ ys)
      → eq q e.0 ≡ true → NonePasses (eq q) xs
  none_before xs e ys q d t =
      each-left _ xs ys (none_equal eq laws e.0 q (xs ++ ys) (laws.symm e.0 q ∙ t)
      (none_others eq laws xs e ys d))

  -- the place of the key of the entry at i is i
  pub place_of_its_key : (es : List (K × V)) (i : ℕ) (e : K × V) (q : K) → IsEntries eq es
      → slice_get es i ≡ Some e → eq q e.0 ≡ true → place_of (eq q) es ≡ Some i
  place_of_its_key es i e q d at t =
      let s = split_at es i e at in
      let there = subst (IsEntries eq) s.2 d in
      rw (s.2) (place_of-here (eq q) e s.1 t s.0 (none_before s.0 e s.1 q there t) ∙ ap Some s.3)

  pub lookup_entry_at : (es : List (K × V)) (i : ℕ) (e : K × V) (q : K) → IsEntries eq es
      → slice_get es i ≡ Some e → eq q e.0 ≡ true → lookup_entry (eq q) es ≡ Some e
  lookup_entry_at es i e q d at t =
      let s = split_at es i e at in
      rw (s.2) (lookup_entry-here (eq q) e s.1 t s.0 (none_before s.0 e s.1 q (subst (IsEntries eq) s.2 d) t))

  -- the key object that the list has for the key of the entry at i is the entry's
  pub stored_key_at : (es : List (K × V)) (i : ℕ) (e : K × V) (q : K) → IsEntries eq es
      → slice_get es i ≡ Some e → eq q e.0 ≡ true → stored_key eq es q ≡ e.0
  stored_key_at es i e q d at t = rw (lookup_key_is (eq q) es, lookup_entry_at es i e q d at t) refl
