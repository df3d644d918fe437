-- If `Q` allows each value that `P` allows a closure to return for a pair, then steps of a cache by `P` are
-- steps by `Q`.
use Rattle.hashlink_run.specs.declared.cache_commands.CacheCommand.TheVariants as cache
use Rattle.hashlink_run.specs.declared.cache_commands.WeightedCommand.TheVariants as weighted
use Rattle.hashlink_run.proofs.Names.{Bool, List, Option, Result, Ok, Err, MatchResult, ◌≡◌, [], ◌∷◌}
use Rattle.hashlink_run.proofs.Names.{lookup_entry, CacheState, CacheCommand, Reply, Refused, CacheStep}
use Rattle.hashlink_run.{proofs.Names.Replies, proofs.Wider.{replies-wider, entry-wider}}
use Rattle.hashlink_run.specs.WeightedStep.{WeightedStep, named_pair}
use Rattle.hashlink_run.specs.declared.cache_commands.WeightedCommand.{WeightedCommand}
use Rattle.hashlink_model.specs.Weights.{WeightedState}

module _ {K V B : Type 0} (P Q : K → V → B → Type 0) (wider : (k : K) (v : V) (b : B) → P k v b → Q k v b)
    {S : Type 0} (eq : K → K → Bool) (old : CacheState K V S) (replies : List (Reply K V B))
    (new : CacheState K V S) where
  use-wider : (k : K) (answer : Result (Option V) (K × V))
      → MatchResult answer (λ w. Replies P (lookup_entry (eq k) old.map.entries) replies)
      (λ pair. replies ≡ Refused pair.0 pair.1 ∷ [])
      → MatchResult answer (λ w. Replies Q (lookup_entry (eq k) old.map.entries) replies)
      (λ pair. replies ≡ Refused pair.0 pair.1 ∷ [])
  use-wider k (Ok w) s = replies-wider P Q wider (lookup_entry (eq k) old.map.entries) replies s
  use-wider k (Err pair) s = s

  pub cache_step-wider : (command : CacheCommand K V) → CacheStep eq P old command replies new
      → CacheStep eq Q old command replies new
  cache_step-wider (cache.Use k v) s = (s.0, s.1, use-wider k s.0 s.2)
  cache_step-wider (cache.Entry k step) s =
      (s.0, s.1, entry-wider P Q wider s.0 replies new.map eq k step s.2, s.3)
  cache_step-wider (cache.Get k) s =
      (s.0, replies-wider P Q wider (lookup_entry (eq k) old.map.entries) replies s.1)
  cache_step-wider (cache.Peek k) s =
      (s.0, replies-wider P Q wider (lookup_entry (eq k) old.map.entries) replies s.1)
  cache_step-wider command s = s

-- ---- the same for a cache with a budget

module _ {K V B : Type 0} (P Q : K → V → B → Type 0) (wider : (k : K) (v : V) (b : B) → P k v b → Q k v b)
    {S : Type 0} (eq : K → K → Bool) (old : WeightedState K V S) (replies : List (Reply K V B))
    (new : WeightedState K V S) where
  pub weighted_step-wider : (command : WeightedCommand K V) → WeightedStep eq P old command replies new
      → WeightedStep eq Q old command replies new
  weighted_step-wider (weighted.Get k) s =
      (s.0, replies-wider P Q wider (named_pair eq old k) replies s.1)
  weighted_step-wider (weighted.Peek k) s =
      (s.0, replies-wider P Q wider (named_pair eq old k) replies s.1)
  weighted_step-wider command s = s
