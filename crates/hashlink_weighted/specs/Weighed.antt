-- What holds for the entries inside a cache with a budget, and how an iterator shows them.
use Rattle.std.specs.Prelude.{◌≡◌, ℕ, ◌≤◌, List, [], ◌∷◌, ◌++◌, length, Option, None, Some, Bool}
use Rattle.std.specs.{Borrow.Bor, Map.{lookup, lookup_entry}}
use Rattle.hashlink_model.specs.{MapState.empty_map, Steps.{MovesMatch, RemovesMatch}}
use Rattle.hashlink_model.specs.Weights.{WeightedState, total_weight}

-- a new cache: no entries, no memory allocated, and a budget
abbrev pub empty_weighted : {K V S : Type 0} → S → ℕ → WeightedState K V S
empty_weighted s n = record { map = empty_map s; budget = n }

-- its entries, each with its value and its weight, in order
abbrev pub entries_of : {K V S : Type 0} → WeightedState K V S → List (K × (V × ℕ))
entries_of c = c.map.entries

-- an entry as an iterator returns it
abbrev pub deref_weighed : {K V : Type 0} → Bor K × Bor V × ℕ → K × (V × ℕ)
deref_weighed e = (e.0.now, (e.1.now, e.2))

module _ {K V : Type 0} where
  -- `total` is the sum of the weights, and at most the budget
  pub record HasTotal (es : List (K × (V × ℕ))) (total budget : ℕ) : Type 0 where
    pub sum : total ≡ total_weight es
    pub within : total ≤ budget

  -- the last entry has this weight, and all others together weigh `others`
  pub record LastWeighs (es : List (K × (V × ℕ))) (others weight : ℕ) : Type 0 where
    pub before : List (K × (V × ℕ))
    pub last : K × (V × ℕ)
    pub split : es ≡ before ++ last ∷ []
    pub others_weigh : total_weight before ≡ others
    pub last_weighs : last.1.1 ≡ weight

module _ {K V S : Type 0} where
  -- the first entry whose key passes the test moves last with its value and weight unchanged; if none passes,
  -- nothing changes
  pub record WeightedGetsMatch (test : K → Bool) (old new : WeightedState K V S) : Type 0 where
    pub moves : MovesMatch test old.map new.map (length old.map.entries) (lookup test old.map.entries)
    pub budget : new.budget ≡ old.budget

  -- it is removed; if none passes, nothing changes
  pub record WeightedRemovesMatch (test : K → Bool) (old new : WeightedState K V S) : Type 0 where
    pub removes : RemovesMatch test old.map new.map (lookup_entry test old.map.entries)
    pub budget : new.budget ≡ old.budget

  module _ (eq : K → K → Bool) where
    -- a `get` of a key, and its removal
    abbrev pub WeightedGets : WeightedState K V S → WeightedState K V S → K → Type 0
    WeightedGets old new k = WeightedGetsMatch (eq k) old new

    abbrev pub WeightedRemoves : WeightedState K V S → WeightedState K V S → K → Type 0
    WeightedRemoves old new k = WeightedRemovesMatch (eq k) old new

-- the weight of a value, or 0 if there was no value
abbrev pub weight_or_none : {V : Type 0} → Option (V × ℕ) → ℕ
weight_or_none None = 0
weight_or_none (Some w) = w.1
