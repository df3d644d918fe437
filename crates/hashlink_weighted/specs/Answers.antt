-- An insert within a budget, by its result.
use Rattle.std.specs.{Prelude.{◌≡◌, ℕ, Bool, List, codes, Option, Result, MatchResult}, Map.lookup}
use Rattle.std.specs.Option.{option_map}
use Rattle.hashlink_model.specs.Weights.{WeightedState, WeightedInserts, WeightedRefuses, IsTooHeavy}
use Rattle.hashlink_weighted.specs.declared.error.WeightError.{WeightError}
use Rattle.hashlink_weighted.specs.declared.error.WeightError.TheVariants.{TooHeavy, Memory}

-- a value without its weight
abbrev pub without_weight : {V : Type 0} → Option (V × ℕ) → Option V
without_weight w = option_map (λ x. x.0) w

module _ {K V : Type 0} where
  -- the pair that a refused insert returns
  abbrev pub refused_pair : WeightError K V → K × V
  refused_pair (TooHeavy pair) = pair
  refused_pair (Memory pair) = pair

  abbrev pub refusal_shown : WeightError K V → List ℕ
  refusal_shown (TooHeavy pair) = codes "the weight is above the budget"
  refusal_shown (Memory pair) = codes "memory allocation failed"

module _ {K V S : Type 0} (eq : K → K → Bool) (old new : WeightedState K V S) (k : K)
    (v : V) (weight : ℕ) where
  -- an insert that succeeded, which returns the key's old value
  pub record Accepts (answer : Option V) : Type 0 where
    pub inserts : WeightedInserts eq old new k v weight (lookup (eq k) old.map.entries)
    pub old_value : answer ≡ without_weight (lookup (eq k) old.map.entries)

  -- an insert that failed, which returns the pair
  abbrev pub Refuses : WeightError K V → Type 0
  Refuses (TooHeavy pair) = (pair ≡ (k, v)) × IsTooHeavy old new weight
  Refuses (Memory pair) = (pair ≡ (k, v)) × WeightedRefuses eq old new k v weight

  abbrev pub InsertsWithin : Result (Option V) (WeightError K V) → Type 0
  InsertsWithin r = MatchResult r Accepts Refuses
