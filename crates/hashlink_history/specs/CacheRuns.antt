-- Several calls of a cache, none of them refused: what it holds after them, and what each call returned.
use Rattle.std.specs.{Prelude.{◌≡◌, ℕ, Bool, true, false, List, [], ◌∷◌, Option}, List.AllByRecursion}
use Rattle.std.specs.Map.{lookup}
use Rattle.hashlink_model.specs.{Entries.without, Cache.{cache_put, cache_use}}

-- one call, with its key, and with its value if it has one
pub data CacheEvent (K V : Type 0) : Type 0 where
  Insert Use : K → V → CacheEvent K V
  Remove Peek : K → CacheEvent K V

module _ {K V : Type 0} where
  abbrev pub key_of : CacheEvent K V → K
  key_of (Insert k v) = k
  key_of (Use k v) = k
  key_of (Remove k) = k
  key_of (Peek k) = k

  abbrev pub is_use : CacheEvent K V → Bool
  is_use (Insert k v) = false
  is_use (Use k v) = true
  is_use (Remove k) = false
  is_use (Peek k) = false

  abbrev pub is_removal : CacheEvent K V → Bool
  is_removal (Insert k v) = false
  is_removal (Use k v) = false
  is_removal (Remove k) = true
  is_removal (Peek k) = false

  abbrev pub NoUse : List (CacheEvent K V) → Type 0
  NoUse events = AllByRecursion (λ e. is_use e ≡ false) events

  abbrev pub NoRemoval : List (CacheEvent K V) → Type 0
  NoRemoval events = AllByRecursion (λ e. is_removal e ≡ false) events

  -- the history of the calls: the keys that were inserted or used, in order
  abbrev pub used_keys : List (CacheEvent K V) → List K
  used_keys [] = []
  used_keys (Insert k v ∷ events) = k ∷ used_keys events
  used_keys (Use k v ∷ events) = k ∷ used_keys events
  used_keys (Remove k ∷ events) = used_keys events
  used_keys (Peek k ∷ events) = used_keys events

  module _ (eq : K → K → Bool) where
    -- what a call returns: the value that its key has before it
    abbrev pub answer_to : List (K × V) → CacheEvent K V → Option V
    answer_to es e = lookup (eq (key_of e)) es

    module _ (cap : ℕ) where
      -- the entries after a call
      abbrev pub after_event : List (K × V) → CacheEvent K V → List (K × V)
      after_event es (Insert k v) = cache_put eq es cap k v
      after_event es (Use k v) = cache_use eq es cap k v
      after_event es (Remove k) = without eq es k
      after_event es (Peek k) = es

      -- the entries after all calls, and the results
      abbrev pub after_events : List (K × V) → List (CacheEvent K V) → List (K × V)
      after_events es [] = es
      after_events es (e ∷ events) = after_events (after_event es e) events

      abbrev pub answers : List (K × V) → List (CacheEvent K V) → List (Option V)
      answers es [] = []
      answers es (e ∷ events) = answer_to es e ∷ answers (after_event es e) events
