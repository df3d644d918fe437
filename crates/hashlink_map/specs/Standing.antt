-- The place of a node after a step, and that it still has its keys.
use Rattle.std.specs.Prelude.{◌≡◌, ℕ, zero, suc, ◌+◌, ◌≤◌, length, Bool, cond, List, [], ◌∷◌, Option, None}
use Rattle.std.specs.{Prelude.Some, Option.option_map, Map.values_of}
use Rattle.std.proofs.Common.{refl, sym, ap, subst, ◌∙◌}
use Rattle.hashlink_model.specs.Entries.{place_of}
use Rattle.hashlink_core.specs.{Places.{Node, Holds, IsPlace, place_number, renewed_at}, Walk.StandsBetween}
use Rattle.hashlink_core.specs.Keyed.{Keyed, HoldsKey, HoldsMatch, pair_with_value}
use Rattle.hashlink_core.proofs.Places.{place_number-renewed, renewed-holds}
use denote.Struct.Props.{props}

-- that a place is in the list is a proposition
pub IsPlace-prop : {X : Type 0} (ns : List (Node × X)) (p : Option Node) → IsProp (IsPlace ns p)
IsPlace-prop ns None = hlevel props
IsPlace-prop ns (Some n) = hlevel props

-- the node is in the map, at the place p, and has each key that it had
pub record StaysHeld {K V S : Type 0} (eq : K → K → Bool) (old new : Keyed K V S) (n : Node)
    (p : ℕ) : Type 0 where
  pub within : Holds new.nodes n
  pub place : place_number new.nodes (Some n) ≡ p
  pub keys : (k : K) → HoldsKey eq old.nodes k n → HoldsKey eq new.nodes k n

module _ {K V : Type 0} (v : V) where
  key_place-renewed : (test : K → Bool) (es : List (Node × (K × V))) (j : ℕ)
      → place_of test (values_of (renewed_at (pair_with_value v) es j)) ≡ place_of test (values_of es)
  key_place-renewed test [] j = refl
  key_place-renewed test (e ∷ es) zero = refl
  key_place-renewed test (e ∷ es) (suc j) =
      ap (λ o. cond (test e.1.0) (Some 0) (option_map (λ i. i + 1) o)) (key_place-renewed test es j)

  -- a node in the list stays there when a value is written
  pub still_holds : (ns : List (Node × (K × V))) (n : Node) → Holds ns n
      → Holds (renewed_at (pair_with_value v) ns (place_number ns (Some n))) n
  still_holds ns n h = renewed-holds (pair_with_value v) ns (place_number ns (Some n)) n h

  -- so does any place
  pub still_placed : (ns : List (Node × (K × V))) (j : ℕ) (p : Option Node) → IsPlace ns p
      → IsPlace (renewed_at (pair_with_value v) ns j) p
  still_placed ns j None within = tt
  still_placed ns j (Some n) within = renewed-holds (pair_with_value v) ns j n within

  -- the places of a walk stay as they are
  pub still_standing : (ns : List (Node × (K × V))) (j : ℕ) {first last : Option Node} {left : ℕ}
      → StandsBetween ns first last left
      → StandsBetween (renewed_at (pair_with_value v) ns j) first last left
  still_standing ns j {first} {last} {left} w =
      let same = place_number-renewed (pair_with_value v) ns j in
      record {
        few = subst (λ i. i + left ≤ length (renewed_at (pair_with_value v) ns j)) (sym (same first))
            (subst (λ l. place_number ns first + left ≤ l) (sym (same None)) w.few);
        ends = λ some. ap (λ i. i + 1) (same last) ∙ w.ends some ∙ ap (λ i. i + left) (sym (same first));
      }

  -- a node keeps the keys that it had
  pub still_holds_match : {test : K → Bool} (ns : List (Node × (K × V))) (n : Node) → HoldsMatch test ns n
      → HoldsMatch test (renewed_at (pair_with_value v) ns (place_number ns (Some n))) n
  still_holds_match {test = test} ns n h =
      let j = place_number ns (Some n) in
      record {
        within = renewed-holds (pair_with_value v) ns j n h.within;
        place =
            key_place-renewed test ns j ∙ h.place
            ∙ ap Some (sym (place_number-renewed (pair_with_value v) ns j (Some n)));
      }
