-- The entries after a key is put at a place.
use Rattle.hashlink_model.proofs.Names.{◌≡◌, ℕ, ◌+◌, ◌-◌, Bool, true, false, cond, List, [], ◌∷◌, ◌++◌}
use Rattle.hashlink_model.proofs.Names.{length, Some, refl, ◌∙◌, ◌⊎◌, inl, inr, subst, arith, take, drop}
use Rattle.hashlink_model.proofs.Names.{insert, IsEquivalence, lookup_entry, set_value, NonePasses}
use Rattle.hashlink_model.proofs.Names.{take-append-drop, insert_end, IsEntries, place_of, place_without}
use Rattle.hashlink_model.proofs.Splits.{StandsAt, Stands, splits, stands_from_place, place_of-none}
use Rattle.hashlink_model.proofs.Splits.{place_of-here, lookup_key-none, lookup_key-here, remove_entry-none}
use Rattle.hashlink_model.proofs.Names.{without, stored_key, put, nat_tests}
use Rattle.hashlink_model.proofs.Splits.{remove_entry-here, set_value-here}
use Rattle.hashlink_model.proofs.Distinct.{none_equal, none_others, IsEntries-middle, IsEntries-insert}
use Rattle.hashlink_model.proofs.Finds.{stored_key-equal, lookup_entry-middle, lookup_entry-without}
use Rattle.std.{specs.Prelude.nat_lt, proofs.lemmas.{List.{take_at, drop_at}, Map.keys-set_value}}

module _ {K V : Type 0} (eq : K → K → Bool) where
  -- an absent key is inserted at the place
  pub put-absent : (es : List (K × V)) (k : K) (v : V) (b : ℕ) → NonePasses (eq k) es
      → put eq es k v b ≡ insert es b (k, v)
  put-absent es k v b n =
      rw (remove_entry-none (eq k) es n, place_of-none (eq k) es n, lookup_key-none (eq k) es n) refl

  -- a present key leaves its place, and is inserted with its own key object
  pub put-here : (xs : List (K × V)) (e : K × V) (ys : List (K × V)) (k : K) (v : V) (b : ℕ) → eq k e.0 ≡ true
      → NonePasses (eq k) xs
      → put eq (xs ++ e ∷ ys) k v b ≡ insert (xs ++ ys) (cond (nat_lt (length xs) b) (b - 1) b) (e.0, v)
  put-here xs e ys k v b t n = rw (remove_entry-here (eq k) e ys t xs n)
      (rw (place_of-here (eq k) e ys t xs n, lookup_key-here (eq k) e ys t xs n) refl)

  -- ---- at the ends, and at the key's own place

  pub place_without-end : (es : List (K × V)) (k : K) → place_without eq es k (length es)
      ≡ length (without eq es k)
  place_without-end [] k = refl
  place_without-end (e ∷ es) k = grind (arith, nat_tests, place_without-end es k)

  -- a key that is put at the end is the last, with the stored key object
  pub put_back : (es : List (K × V)) (k : K) (v : V)
      → put eq es k v (length es) ≡ without eq es k ++ (stored_key eq es k, v) ∷ []
  put_back es k v = rw (place_without-end es k) (insert_end (without eq es k) (stored_key eq es k, v))

  -- a key that is put at 0 is the first
  pub put_front : (es : List (K × V)) (k : K) (v : V) → put eq es k v 0
      ≡ (stored_key eq es k, v) ∷ without eq es k
  put_front es k v = grind (arith, nat_tests)

  -- a put at the key's own place, or directly after it, changes only the value
  kept_by : (es : List (K × V)) (k : K) (v : V) (j b : ℕ) → (b ≡ j) ⊎ (b ≡ j + 1)
      → (xs : List (K × V)) × (e : K × V) × (ys : List (K × V)) × StandsAt (eq k) es xs e ys × (length xs ≡ j)
      → put eq es k v b ≡ set_value (eq k) es v
  kept_by es k v j b at s =
      let place : cond (nat_lt (length s.0) b) (b - 1) b ≡ length s.0 = grind (arith, nat_tests, at, s.4) in
      let written = set_value-here (eq k) s.1 s.2 s.3.passes v s.0 s.3.before in
      rw (s.3.is, put-here s.0 s.1 s.2 k v b s.3.passes s.3.before, written, place)
      (rw (take_at s.0 s.2 (length s.0) refl, drop_at s.0 s.2 (length s.0) refl) refl)

  pub put_at_its_place : (es : List (K × V)) (k : K) (v : V) (j : ℕ) → place_of (eq k) es ≡ Some j
      → put eq es k v j ≡ set_value (eq k) es v
  put_at_its_place es k v j p = kept_by es k v j j (inl refl) (stands_from_place (eq k) es j p)

  pub put_after_its_place : (es : List (K × V)) (k : K) (v : V) (j : ℕ) → place_of (eq k) es ≡ Some j
      → put eq es k v (j + 1) ≡ set_value (eq k) es v
  put_after_its_place es k v j p = kept_by es k v j (j + 1) (inr refl) (stands_from_place (eq k) es j p)

  -- ---- in a list split at the key

  pub put_back_absent : (es : List (K × V)) (k : K) (v : V) → NonePasses (eq k) es
      → put eq es k v (length es) ≡ es ++ (k, v) ∷ []
  put_back_absent es k v n = put-absent es k v (length es) n ∙ insert_end es (k, v)

  pub put_back_here : (xs : List (K × V)) (e : K × V) (ys : List (K × V)) (k : K) (v : V) → eq k e.0 ≡ true
      → NonePasses (eq k) xs → put eq (xs ++ e ∷ ys) k v (length (xs ++ e ∷ ys)) ≡ (xs ++ ys) ++ (e.0, v) ∷ []
  put_back_here xs e ys k v t n =
      put_back (xs ++ e ∷ ys) k v
      ∙ rw (remove_entry-here (eq k) e ys t xs n, lookup_key-here (eq k) e ys t xs n) refl

module _ {K V : Type 0} (eq : K → K → Bool) (laws : IsEquivalence eq) where
  -- ---- keys stay pairwise unequal

  unequal_by : (es : List (K × V)) (k : K) → IsEntries eq es → NonePasses (eq k) es ⊎ Stands (eq k) es
      → IsEntries eq (without eq es k) × NonePasses (eq k) (without eq es k)
  unequal_by es k d (inl n) = rw (remove_entry-none (eq k) es n) (d, n)
  unequal_by es k d (inr s) =
      let there = subst (IsEntries eq) s.3.is d in
      rw (s.3.is, remove_entry-here (eq k) s.1 s.2 s.3.passes s.0 s.3.before) (
        IsEntries-middle eq laws s.0 s.1 s.2 there,
        none_equal eq laws s.1.0 k (s.0 ++ s.2)
            (laws.symm s.1.0 k ∙ s.3.passes) (none_others eq laws s.0 s.1 s.2 there),
      )

  pub IsEntries-without : (es : List (K × V)) (k : K) → IsEntries eq es → IsEntries eq (without eq es k)
  IsEntries-without es k d = (unequal_by es k d (splits (eq k) es)).0

  -- the key itself is gone
  pub none_without : (es : List (K × V)) (k : K) → IsEntries eq es → NonePasses (eq k) (without eq es k)
  none_without es k d = (unequal_by es k d (splits (eq k) es)).1

  -- no entry without the key is equal to the stored key
  none_stored : (es : List (K × V)) (k : K) (j : ℕ) → IsEntries eq es
      → NonePasses (eq (stored_key eq es k)) (take j (without eq es k) ++ drop j (without eq es k))
  none_stored es k j d =
      rw (take-append-drop j (without eq es k))
      (none_equal eq laws k (stored_key eq es k) (without eq es k) (stored_key-equal eq laws k es)
      (none_without es k d))

  pub IsEntries-put : (es : List (K × V)) (k : K) (v : V) (b : ℕ) → IsEntries eq es
      → IsEntries eq (put eq es k v b)
  IsEntries-put es k v b d =
      let j = place_without eq es k b in
      IsEntries-insert eq laws (take j (without eq es k)) (stored_key eq es k, v) (drop j (without eq es k))
      (none_stored es k j d) (rw (take-append-drop j (without eq es k)) (IsEntries-without es k d))

  -- ---- lookups after a put

  pub lookup_entry-put : (q : K) (es : List (K × V)) (k : K) (v : V) (b : ℕ) → IsEntries eq es
      → lookup_entry (eq q) (put eq es k v b) ≡ cond (eq k q) (Some (stored_key eq es k, v))
      (lookup_entry (eq q) es)
  lookup_entry-put q es k v b d =
      let j = place_without eq es k b in
      let zs = without eq es k in
      let k0 = stored_key eq es k in
      let found = lookup_entry-middle eq laws q (k0, v) (drop j zs) (take j zs) (none_stored es k j d) in
      let same = laws.congr k k0 q (stored_key-equal eq laws k es) in
      grind (arith, found, same, take-append-drop j zs, lookup_entry-without eq laws q k es d)

-- ---- a new value at a key leaves every place

module _ {K V : Type 0} (test : K → Bool) where
  pub place_of-set_value : (other : K → Bool) (es : List (K × V)) (v : V)
      → place_of other (set_value test es v) ≡ place_of other es
  place_of-set_value other [] v = refl
  place_of-set_value other (e ∷ es) v = grind (arith, place_of-set_value other es v)

-- ---- it also leaves the pair of every other key

module _ {K V : Type 0} (eq : K → K → Bool) (laws : IsEquivalence eq) where
  pub lookup_entry-set_value_other : (q : K) (es : List (K × V)) (k : K) (v : V) → eq k q ≡ false
      → lookup_entry (eq q) (set_value (eq k) es v) ≡ lookup_entry (eq q) es
  lookup_entry-set_value_other q [] k v t = refl
  lookup_entry-set_value_other q (e ∷ es) k v t =
      grind (arith, lookup_entry-set_value_other q es k v t, laws.symm q e.0, laws.congr k e.0 q)

pub ruleset puts_there = (put_at_its_place, put_after_its_place, place_of-set_value, keys-set_value)

pub ruleset unequal = (IsEntries-put, IsEntries-without)

pub ruleset puts = (put_back, put_front, puts_there, unequal)
