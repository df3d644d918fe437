-- The place of a cursor after a move, and after an insert.
use Rattle.hashlink_model.proofs.Names.{◌≡◌, inl, inr, ℕ, ◌+◌, ◌≤◌, Bool, List, [], ◌∷◌, length, refl, arith}
use Rattle.hashlink_model.proofs.Names.{le_refl, unwrap_or, IsEquivalence, IsEntries, place_of, place_kept}
use Rattle.hashlink_model.{specs.Cursor.following_place, proofs.Places.place_of_its_key}
use Rattle.std.proofs.{Math.Nat.mod_self, lemmas.Option.slice_get_cases}

-- ---- moves

pub following_place-guard : (n : ℕ) → following_place n n ≡ 0
following_place-guard n = mod_self (n + 1)

module _ {K V : Type 0} (eq : K → K → Bool) (laws : IsEquivalence eq) where
  -- if the list stays, so does the cursor's place
  pub place_kept-same : (es : List (K × V)) (i : ℕ) → IsEntries eq es → i ≤ length es
      → place_kept eq es es i ≡ i
  place_kept-same es i d l = elim (slice_get_cases es i).1 [
    | inl s ↦ rw (s.2, place_of_its_key eq laws es i s.0 s.0.0 d s.2 (laws.refl s.0.0)) refl
    | inr n ↦ rw n.1 (omega arith)
  ]

-- a cursor stays within the list
module _ {K V : Type 0} (eq : K → K → Bool) where
  place_of-below : (test : K → Bool) (es : List (K × V)) → unwrap_or (place_of test es) (length es)
      ≤ length es
  place_of-below test [] = le_refl _
  place_of-below test (e ∷ es) = grind (arith, place_of-below test es)

  pub place_kept-within : (old new : List (K × V)) (i : ℕ) → place_kept eq old new i ≤ length new
  place_kept-within old new i = grind (arith, λ (k : K). place_of-below (eq k) new)

pub ruleset places = (place_kept-same, place_kept-within, following_place-guard)
