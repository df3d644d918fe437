-- Several calls of a cache, none of them refused, and what they leave.
use Rattle.std.specs.Prelude.{◌≡◌, ℕ, ◌≤◌, Bool, List, [], ◌∷◌, ◌++◌, length, take, Option, Ok}
use Rattle.std.specs.{Map.{lookup, lookup_entry}, Option.option_map_or}
use Rattle.hashlink_model.specs.Cache.{CacheState, OnMap, CacheInserts, CacheUses}
use Rattle.hashlink_history.specs.CacheRuns.{CacheEvent, after_event, after_events, answers}
use Rattle.hashlink_history.specs.CacheRuns as event
use Rattle.hashlink_model.specs.{Entries.put, MapState.{Grows, MayRefuse, node_count}, Steps.RemovesKey}
use Rattle.hashlink_history.specs.Peak.{Passed, Length, peak}
use Rattle.hashlink_lru.specs.Cached.{empty_cache}
use Rattle.hashlink_run.specs.{declared.cache_commands.PairCommand.PairCommand, Chain.{Chained, after}}
use Rattle.hashlink_run.specs.declared.cache_commands.PairCommand.TheVariants.{Insert, Use, Remove, Peek}

-- a command to two caches, as a call of the model
abbrev pub event_of : {K V : Type 0} → PairCommand K V → CacheEvent K V
event_of (Insert k v) = event.Insert k v
event_of (Use k v) = event.Use k v
event_of (Remove k) = event.Remove k
event_of (Peek k) = event.Peek k

-- a pair, as a use
abbrev pub use_of : {K V : Type 0} → K × V → CacheEvent K V
use_of pair = event.Use pair.0 pair.1

module _ {K V S : Type 0} (eq : K → K → Bool) where
  -- one call that was not refused, with its result
  abbrev pub EventStep : CacheState K V S → CacheEvent K V → List (Option V) → CacheState K V S → Type 0
  EventStep old (event.Insert k v) answers new =
      (w : Option V) × CacheInserts eq old new k v (Ok w) × (answers ≡ w ∷ [])
  EventStep old (event.Use k v) answers new =
      (w : Option V) × CacheUses eq old new k v (Ok w) × (answers ≡ w ∷ [])
  EventStep old (event.Remove k) answers new =
      OnMap (λ a b. RemovesKey eq a b k (lookup_entry (eq k) a.entries)) old new
      × (answers ≡ lookup (eq k) old.map.entries ∷ [])
  EventStep old (event.Peek k) answers new = (new ≡ old) × (answers ≡ lookup (eq k) old.map.entries ∷ [])

  -- one call that was refused: it inserts, and the insert of its key may be refused. Nothing changed except
  -- the room
  abbrev pub EventRefused : CacheState K V S → CacheEvent K V → CacheState K V S → Type 0
  EventRefused old (event.Insert k v) new = MayRefuse eq old.map k × OnMap (Grows 1) old new
  EventRefused old (event.Use k v) new = MayRefuse eq old.map k × OnMap (Grows 1) old new
  EventRefused old (event.Remove k) new = ⊥
  EventRefused old (event.Peek k) new = ⊥

module _ {K V : Type 0} (eq : K → K → Bool) (cap : ℕ) where
  -- the length that a call passes before anything is dropped
  abbrev pub put_passed : List (K × V) → CacheEvent K V → List Passed
  put_passed es (event.Insert k v) = Length (length (put eq es k v (length es))) ∷ []
  put_passed es (event.Use k v) =
      option_map_or (λ w. []) (lookup (eq k) es) (Length (length (put eq es k v (length es))) ∷ [])
  put_passed es (event.Remove k) = []
  put_passed es (event.Peek k) = []

  -- the lengths that the calls pass
  abbrev pub events_passed : List (K × V) → List (CacheEvent K V) → List Passed
  events_passed es [] = []
  events_passed es (e ∷ events) =
      put_passed es e ++ Length (length (after_event eq cap es e)) ∷ events_passed
      (after_event eq cap es e) events

-- several calls of an empty cache of capacity c, none refused. A chain of steps has their results and leads
-- to the cache that they leave; both are computed, even after only the first n calls. The nodes of the cache
-- are within the peak
pub record RunsFromEmpty {K V S : Type 0} (eq : K → K → Bool) (s : S) (c : ℕ) (events : List (CacheEvent K V))
    (replies : List (Option V)) (new : CacheState K V S) : Type 0 where
  pub chain : Chained (EventStep eq) (empty_cache s c) events replies new
  pub entries : new.map.entries ≡ after_events eq c [] events
  pub along : (n : ℕ) → (after (empty_cache s c) chain.answers n).map.entries
      ≡ after_events eq c [] (take n events)
  pub answered : replies ≡ answers eq c [] events
  pub capacity : new.cap ≡ c
  pub nodes : node_count new.map ≤ peak 0 (events_passed eq c [] events)
