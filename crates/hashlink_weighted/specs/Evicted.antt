-- The entries that an insert within a budget evicts, and the calls of a closure on each evicted pair.
use Rattle.std.specs.Prelude.{◌≡◌, ℕ, Bool, List, [], ◌∷◌, ◌++◌, length, if◌then◌else◌, nat_le}
use Rattle.std.specs.{Fn.{Called, Mut, Takes}, List.FoldsTo}
use Rattle.hashlink_model.specs.{Entries.put, Weights.{WeightedState, total_weight}}

module _ {K V : Type 0} where
  -- the entries before the longest end that fits
  abbrev pub not_fitting : List (K × (V × ℕ)) → ℕ → List (K × (V × ℕ))
  not_fitting [] budget = []
  not_fitting (e ∷ es) budget =
      if nat_le (total_weight (e ∷ es)) budget then [] else e ∷ not_fitting es budget

  -- the entries that an insert of a pair with its weight evicts, front first
  abbrev pub evicted_by : {S : Type 0} → (K → K → Bool) → WeightedState K V S → K → V → ℕ
      → List (K × (V × ℕ))
  evicted_by eq c k v weight =
      not_fitting (put eq c.map.entries k (v, weight) (length c.map.entries)) c.budget

module _ {F K V : Type 0} (calls : Mut F (K × (V × Unit {0})) (Unit {0})) where
  -- f was called once on the key and the value of each entry, in order, and became g
  abbrev pub IsGivenEach : F → List (K × (V × ℕ)) → F → Type 0
  IsGivenEach f es g = FoldsTo (λ a e b. Called calls a (e.0, (e.1.0, tt)) tt b) f es g

  -- f may be called on each entry in order, in the state that the calls before left it in
  pub record TakesEach (f : F) (es : List (K × (V × ℕ))) : Type 0 where
    pub at : (before after : List (K × (V × ℕ))) (e : K × (V × ℕ)) (g : F) → es ≡ before ++ e ∷ after
        → IsGivenEach f before g → Takes calls g (e.0, (e.1.0, tt))
