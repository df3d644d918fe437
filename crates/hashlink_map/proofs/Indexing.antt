-- A key that is present, by its place.
use Rattle.hashlink_map.proofs.Names.{◌≡◌, ℕ, Bool, is_some, Option, None, Some, length, refl, ap, sym, ◌∙◌}
use Rattle.hashlink_map.proofs.Names.{true≢false, IsSome, MatchOption, values_of, place_of, with_value_of}
use Rattle.hashlink_map.proofs.Names.{Keyed, HoldsKey, entries_of, state_of, pair_with_value, with_value_at}
use Rattle.hashlink_map.proofs.Names.{Node, renewed_at, HasKey, with_value_at_key, values-renewed_value}
use Rattle.hashlink_map.proofs.Names.{set_value_at-place, lookup-unplaced}
use Rattle.std.proofs.Common.{unwrap_or}
use Rattle.hashlink_core.specs.declared.FoundNode.{FoundNode}

module _ {K V S : Type 0} (eq : K → K → Bool) (m : Keyed K V S) (k : K) where
  not_there : place_of (eq k) (entries_of m) ≡ None → HasKey eq m k → ⊥
  not_there p h = true≢false (sym h ∙ ap is_some (lookup-unplaced (eq k) (entries_of m) p))

  -- the lookup finds it
  pub found_there : (r : Option (FoundNode Node))
      → MatchOption r (place_of (eq k) (entries_of m) ≡ None) (λ f. HoldsKey eq m.nodes k f.node)
      → HasKey eq m k
      → IsSome r
  found_there None f h = absurd (not_there f h)
  found_there (Some n) f h = refl

  -- what is written at the node is written at the key
  pub written_there : (n : Node) → HoldsKey eq m.nodes k n → (w : V) → with_value_at m n w
      ≡ with_value_at_key eq m k w
  written_there n f w =
      ap (λ o. record m {
        nodes = renewed_at (pair_with_value w) m.nodes
            (unwrap_or o (length (entries_of m)));
      })
      (sym f.place)

  -- and in the state that contracts see
  pub state_written_there : (w : V) → HasKey eq m k
      → state_of (with_value_at_key eq m k w) ≡ with_value_of eq (state_of m) k w
  state_written_there w h = by (place_of (eq k) (entries_of m)) refl
    where
      by : (o : Option ℕ) → place_of (eq k) (entries_of m) ≡ o
          → state_of (with_value_at_key eq m k w) ≡ with_value_of eq (state_of m) k w
      by None p = absurd (not_there p h)
      by (Some j) p =
          ap (λ es. record (state_of m) { entries = es })
          (ap (λ o. values_of (renewed_at (pair_with_value w) m.nodes (unwrap_or o (length (entries_of m)))))
          p
          ∙ values-renewed_value m.nodes j w
          ∙ set_value_at-place (eq k) (entries_of m) j w p)
