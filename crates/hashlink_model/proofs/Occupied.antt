-- Lists after the steps on an occupied entry.
use Rattle.hashlink_model.proofs.Names
use Names.{insert, remove, zero, suc, ◌<◌, MatchOption, Option, arith, take, drop, length-append, length-take}
use Names.{length-drop, ◌≡◌, ℕ, Bool, true, cond, List, [], ◌∷◌, ◌++◌, length, slice_get, None, Some, refl}
use Names.{sym, ap, ap₂, ◌∙◌, subst, IsEquivalence, option_map_or, lookup_entry, NonePasses}
use Names.{IsEntries, place_of, place_left, put, moved_at, without, set_value_at, set_key_at, MapState}
use Rattle.hashlink_model.proofs.ByPlace.{set_value_at-here, set_key_at-here, remove-here, moved_at-last}
use Rattle.hashlink_model.specs.Entry.{IsRawEntry, raw_entry_of, insert_value, insert_entry, replace_entry}
use Rattle.hashlink_model.proofs.Distinct.{none_equal, none_others, IsEntries-middle, IsEntries-insert}
use Rattle.hashlink_model.proofs.{Finds.lookup_entry-middle, Puts.{none_without, unequal}}
use Rattle.hashlink_model.proofs.Splits.{stands_from_place}
use Rattle.hashlink_model.proofs.Places.{split_at, place_of_its_key}
use Rattle.hashlink_model.proofs.ByPlace.{moved_at-put, remove-place, length-set_value_at, by_place}

module _ {K V : Type 0} where
  -- in a list split at the entry
  pub replace_entry-here : (xs : List (K × V)) (e : K × V) (ys : List (K × V)) (h : K) (v : V)
      → replace_entry (xs ++ e ∷ ys) (length xs) h v ≡ xs ++ (h, v) ∷ ys
  replace_entry-here xs e ys h v =
      ap (λ zs. set_key_at zs (length xs) h) (set_value_at-here xs e ys v) ∙ set_key_at-here xs (e.0, v) ys h

module _ {K V : Type 0} (eq : K → K → Bool) (laws : IsEquivalence eq) where
  -- the entry at j is gone, and h is the last, with the value
  pub insert_entry-last : (es : List (K × V)) (j : ℕ) (e : K × V) (h : K) (v : V) → IsEntries eq es
      → slice_get es j ≡ Some e → insert_entry es j h v ≡ without eq es e.0 ++ (h, v) ∷ []
  insert_entry-last es j e h v d at =
      let s = split_at es j e at in
      let long : length (s.0 ++ e ∷ s.1) ≡ length (s.0 ++ (h, v) ∷ s.1)
      = omega (arith, length-append s.0 (e ∷ s.1), length-append s.0 ((h, v) ∷ s.1)) in
      ap₂ (λ zs i. insert_entry zs i h v) s.2 (sym s.3)
      ∙ ap₂ (λ zs n. moved_at zs (length s.0) n) (replace_entry-here s.0 e s.1 h v) long
      ∙ moved_at-last s.0 (h, v) s.1 ∙ ap (λ zs. zs ++ (h, v) ∷ [])
      (sym (remove-here s.0 e s.1) ∙ ap₂ remove (sym s.2) s.3
      ∙ remove-place (eq e.0) es j (place_of_its_key eq laws es j e e.0 d at (laws.refl e.0)))

  -- ---- h in the place of e

  others_apart : (xs : List (K × V)) (e : K × V) (ys : List (K × V)) (h : K) → IsEntries eq (xs ++ e ∷ ys)
      → eq h e.0 ≡ true → NonePasses (eq h) (xs ++ ys)
  others_apart xs e ys h d t =
      none_equal eq laws e.0 h (xs ++ ys) (laws.symm e.0 h ∙ t) (none_others eq laws xs e ys d)

  pub IsEntries-replace_entry : (es : List (K × V)) (j : ℕ) (e : K × V) (h : K) (v : V) → IsEntries eq es
      → slice_get es j ≡ Some e → eq h e.0 ≡ true → IsEntries eq (replace_entry es j h v)
  IsEntries-replace_entry es j e h v d at t =
      let s = split_at es j e at in
      let there = subst (IsEntries eq) s.2 d in
      subst (IsEntries eq)
      (sym (replace_entry-here s.0 e s.1 h v) ∙ ap₂ (λ zs i. replace_entry zs i h v) (sym s.2) s.3)
      (IsEntries-insert eq laws s.0 (h, v) s.1 (others_apart s.0 e s.1 h there t)
      (IsEntries-middle eq laws s.0 e s.1 there))

  pub lookup_entry-replace_entry : (q : K) (es : List (K × V)) (j : ℕ) (e : K × V) (h : K) (v : V)
      → IsEntries eq es → slice_get es j ≡ Some e → eq h e.0 ≡ true
      → lookup_entry (eq q) (replace_entry es j h v) ≡ cond (eq h q) (Some (h, v)) (lookup_entry (eq q) es)
  lookup_entry-replace_entry q es j e h v d at t =
      let s = split_at es j e at in
      let there = subst (IsEntries eq) s.2 d in
      let left = ap₂ (λ zs i. lookup_entry (eq q) (replace_entry zs i h v)) s.2 (sym s.3)
      ∙ ap (lookup_entry (eq q)) (replace_entry-here s.0 e s.1 h v) in
      let new = lookup_entry-middle eq laws q (h, v) s.1 s.0 (others_apart s.0 e s.1 h there t) in
      let old = lookup_entry-middle eq laws q e s.1 s.0 (none_others eq laws s.0 e s.1 there) in
      grind (arith, left, new, old, ap (lookup_entry (eq q)) s.2, laws.congr h e.0 q t)

  pub place_of-replace_entry : (q : K) (es : List (K × V)) (j : ℕ) (e : K × V) (h : K) (v : V)
      → slice_get es j ≡ Some e → eq h e.0 ≡ true
      → place_of (eq q) (replace_entry es j h v) ≡ place_of (eq q) es
  place_of-replace_entry q [] j e h v at t = refl
  place_of-replace_entry q (x ∷ es) zero e h v at t =
      grind (arith, at, laws.symm q h, laws.congr h e.0 q t, laws.symm q e.0)
  place_of-replace_entry q (x ∷ es) (suc j) e h v at t =
      grind (arith, place_of-replace_entry q es j e h v at t)

  -- ---- the stored key last, with a new value

  pub insert_value-put : (es : List (K × V)) (j : ℕ) (e : K × V) (v : V) → IsEntries eq es
      → slice_get es j ≡ Some e → insert_value es j v ≡ put eq es e.0 v (length es)
  insert_value-put es j e v d at =
      moved_at-put eq es e.0 j (place_of_its_key eq laws es j e e.0 d at (laws.refl e.0)) v (length es)

-- ---- lengths

module _ {K V : Type 0} where
  length-set_key_at : (es : List (K × V)) (j : ℕ) (k : K) → length (set_key_at es j k) ≡ length es
  length-set_key_at [] j k = refl
  length-set_key_at (e ∷ es) zero k = refl
  length-set_key_at (e ∷ es) (suc j) k = ap suc (length-set_key_at es j k)

  pub length-moved_at : (es : List (K × V)) (j b : ℕ) → length (moved_at es j b) ≡ length es
  length-moved_at es j b = by (slice_get es j) refl
    where
      by : (o : Option (K × V)) → slice_get es j ≡ o
          → length (option_map_or (λ e. insert (remove es j) (place_left j b) e) o es) ≡ length es
      by None at = refl
      by (Some e) at =
          let s = split_at es j e at in
          let zs = remove es j in
          let n = place_left j b in
          let rest = ap length (ap₂ remove s.2 (sym s.3) ∙ remove-here s.0 e s.1) in
          let whole = ap length s.2 ∙ length-append s.0 (e ∷ s.1) in
          omega (
            arith,
            rest ∙ length-append s.0 s.1,
            length-append (take n zs) (e ∷ drop n zs),
            length-take n zs,
            length-drop n zs,
          )

  pub length-replace_entry : (es : List (K × V)) (j : ℕ) (h : K) (v : V)
      → length (replace_entry es j h v) ≡ length es
  length-replace_entry es j h v = length-set_key_at (set_value_at es j v) j h ∙ length-set_value_at es j v

  pub length-insert_value : (es : List (K × V)) (j : ℕ) (v : V) → length (insert_value es j v) ≡ length es
  length-insert_value es j v = length-moved_at (set_value_at es j v) j (length es)
      ∙ length-set_value_at es j v

  pub length-insert_entry : (es : List (K × V)) (j : ℕ) (h : K) (v : V)
      → length (insert_entry es j h v) ≡ length es
  length-insert_entry es j h v = length-moved_at (replace_entry es j h v) j (length es)
      ∙ length-replace_entry es j h v

-- ---- the place of an entry

module _ {K V S : Type 0} (eq : K → K → Bool) where
  pub raw_entry_stands : (m : MapState K V S) (k : K) → IsRawEntry (raw_entry_of eq m k)
  raw_entry_stands m k = by (place_of (eq k) m.entries) refl
    where
      by : (o : Option ℕ) → place_of (eq k) m.entries ≡ o → MatchOption o (Unit {0})
          (λ j. j < length m.entries)
      by None p = tt
      by (Some j) p =
          let s = stands_from_place (eq k) m.entries j p in
          omega (arith, s.4, ap length s.3.is, length-append s.0 (s.1 ∷ s.2))

pub ruleset lengths = (length-insert_value, length-insert_entry, length-replace_entry, length-moved_at)

pub ruleset replaced = (lookup_entry-replace_entry, place_of-replace_entry, IsEntries-replace_entry, unequal)

pub ruleset occupied = (lengths, replaced, insert_value-put, insert_entry-last, raw_entry_stands, by_place)
