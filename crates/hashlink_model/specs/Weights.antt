-- Entries whose values have a weight, and their longest end within a budget.
use Rattle.std.specs.Prelude.{◌≡◌, ◌≤◌, ◌<◌, Option, ℕ, Bool, List, [], ◌∷◌, length, sum_by, if◌then◌else◌}
use Rattle.std.specs.Prelude.{nat_le}
use Rattle.hashlink_model.specs.{Cache.InsertsLast, Entries.put, MapState.{MapState, RefusesEntry}}
use Rattle.hashlink_model.specs.Steps.{KeepsOnly}

module _ {K V : Type 0} where
  -- the sum of the weights
  abbrev pub total_weight : List (K × (V × ℕ)) → ℕ
  total_weight es = sum_by (λ e. e.1.1) es

  -- the longest end whose weights sum to at most the budget
  abbrev pub fitting : List (K × (V × ℕ)) → ℕ → List (K × (V × ℕ))
  fitting [] budget = []
  fitting (e ∷ es) budget = if nat_le (total_weight (e ∷ es)) budget then e ∷ es else fitting es budget

  -- the entries after an insert that is not too heavy
  abbrev pub weighted_put : (K → K → Bool) → List (K × (V × ℕ)) → ℕ → K → V → ℕ → List (K × (V × ℕ))
  weighted_put eq es budget k v weight = fitting (put eq es k (v, weight) (length es)) budget

-- a map whose values have weights, and the budget
pub record WeightedState (K V S : Type 0) : Type 0 where
  pub map : MapState K (V × ℕ) S
  pub budget : ℕ

-- an insert of a pair that is too heavy changes nothing
pub record IsTooHeavy {K V S : Type 0} (old new : WeightedState K V S) (weight : ℕ) : Type 0 where
  pub too_heavy : old.budget < weight
  pub unchanged : new ≡ old

module _ {K V S : Type 0} (eq : K → K → Bool) where
  -- an insert was accepted: the map's insert of the pair with its weight, after which the fitting end is
  -- left; w is the old value with its weight
  pub record WeightedInserts (old new : WeightedState K V S) (k : K) (v : V) (weight : ℕ)
      (w : Option (V × ℕ)) : Type 0 where
    pub not_too_heavy : weight ≤ old.budget
    pub between : MapState K (V × ℕ) S
    pub inserts : InsertsLast eq k (v, weight) w old.map between
    pub keeps : KeepsOnly between new.map (fitting between.entries old.budget)
    pub budget : new.budget ≡ old.budget

  -- an insert was refused for memory
  pub record WeightedRefuses (old new : WeightedState K V S) (k : K) (v : V) (weight : ℕ) : Type 0 where
    pub not_too_heavy : weight ≤ old.budget
    pub refuses : RefusesEntry eq old.map new.map k (v, weight) (k, (v, weight))
    pub budget : new.budget ≡ old.budget
