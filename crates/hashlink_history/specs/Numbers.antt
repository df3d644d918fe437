-- The definitions at keys and values that are numbers, for rows that the prover computes.
use Rattle.std.specs.Prelude.{ℕ, List, [], Option, nat_eq}
use Rattle.hashlink_model.specs.Cache as cache
use Rattle.hashlink_model.specs.Numbers.{Pairs}
use Rattle.hashlink_history.specs.CacheRuns as runs
use Rattle.hashlink_history.specs.History as history

-- calls of a cache that starts empty
abbrev pub answers : ℕ → List (runs.CacheEvent ℕ ℕ) → List (Option ℕ)
answers cap events = runs.answers nat_eq cap [] events

abbrev pub after_events : ℕ → List (runs.CacheEvent ℕ ℕ) → Pairs
after_events cap events = runs.after_events nat_eq cap [] events

-- histories
abbrev pub reuse_distance : List ℕ → ℕ → ℕ
reuse_distance = history.reuse_distance nat_eq

abbrev pub misses : List ℕ → List (List ℕ) → ℕ
misses = history.misses nat_eq

abbrev pub cache_misses : ℕ → List ℕ → ℕ
cache_misses = history.cache_misses nat_eq

abbrev pub missed_uses : ℕ → Pairs → Pairs → ℕ
missed_uses = cache.missed_uses nat_eq
