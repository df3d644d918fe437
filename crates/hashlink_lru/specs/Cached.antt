-- What a contract sees of a cache.
use Rattle.std.specs.Prelude.{◌≡◌, ◌⊎◌, ℕ, ◌+◌, ◌-◌, ◌≤◌, max, Bool, List, length, Option, None, Result, Err}
use Rattle.std.specs.{Prelude.MatchOption, Map.lookup, Option.UnwrapsOrElse}
use Rattle.hashlink_model.specs.Cache.{CacheState, CacheInserts, CacheGetsAndWrites, IsWithin, KeepsLast}
use Rattle.hashlink_model.specs.{Cache.{OnMap, InsertsLast, InsertsThenFits}, Lookups.UpdatesFitting}
use Rattle.hashlink_model.specs.MapState.{MapState, empty_map, with_value}
use Rattle.hashlink_core.specs.Keyed as keyed
use Rattle.hashlink_core.specs.Keyed.{Keyed}
use Rattle.hashlink_map.specs.{EntryLends.PutsLast, declared.try_insert_error.TryInsertError.TryInsertError}
use Rattle.hashlink_map.specs.declared.try_insert_error.TryInsertError.TheVariants.{Make, Memory}
use Rattle.hashlink_lru.specs.declared.cache.LruCache.{LruCache}

-- a new cache: no entries, no memory allocated, and a capacity
abbrev pub empty_cache : {K V S : Type 0} → S → ℕ → CacheState K V S
empty_cache s n = record { map = empty_map s; cap = n }

-- if the old cache has at most n entries beyond its capacity, so has the new one
abbrev pub StaysWithin : {K V S : Type 0} → CacheState K V S → CacheState K V S → Type 0
StaysWithin old new = (n : ℕ) → IsWithin old n → IsWithin new n

-- the cache's insert of a pair
abbrev pub InsertsPairIn : {K V S : Type 0} → (K → K → Bool) → CacheState K V S → CacheState K V S → K × V
    → Result (Option V) (K × V)
    → Type 0
InsertsPairIn eq old new p r = CacheInserts eq old new p.0 p.1 r

-- the same for a bound that allows at least one entry
abbrev pub StaysWithinOne : {K V S : Type 0} → CacheState K V S → CacheState K V S → Type 0
StaysWithinOne old new = (n : ℕ) → 1 ≤ old.cap + n → IsWithin old n → IsWithin new n

module _ {K V S : Type 0} (eq : K → K → Bool) where
  -- the insert of an absent key whose value is lent: the last `cap` entries stay; at capacity 0 the new one
  -- stays
  abbrev pub PutsNewIn : CacheState K V S → CacheState K V S → K → V → Type 0
  PutsNewIn old new k v = OnMap (λ a b. InsertsThenFits (InsertsLast eq k v None) (max old.cap 1) a b) old new

  -- a present key moves to the back with its value; an absent one is inserted there with a value that may be
  -- made
  abbrev pub MovesOrMakes : (V → Type 0) → MapState K V S → MapState K V S → K → Type 0
  MovesOrMakes Makes old new k =
      (v : V) × UnwrapsOrElse (lookup (eq k) old.entries) Makes v × PutsLast eq old new k v

  -- a use of a key, after w was written through the lent value: a hit of `get_mut`, or the insert of an
  -- absent key with w
  abbrev pub UsesAndWrites : CacheState K V S → CacheState K V S → K → V → Type 0
  UsesAndWrites old new k w =
      MatchOption (lookup (eq k) old.map.entries) (PutsNewIn old new k w)
      (λ _. CacheGetsAndWrites eq old new k w)

  -- what a look-up finds after w was written through the value that a use lent
  abbrev pub UpdatesUsed : CacheState K V S → K → Type 0
  UpdatesUsed old k =
      (new : CacheState K V S) (w : V) → UsesAndWrites old new k w
      → UpdatesFitting eq old.map.entries new.map.entries k w

  -- if the value was not made, the use changed nothing; if memory was refused, it is a refused insert
  abbrev pub FailsToUse : {E : Type 0} → CacheState K V S → CacheState K V S → K
      → TryInsertError K V E → Type 0
  FailsToUse old new k (Make q e) = new ≡ old
  FailsToUse old new k (Memory pair) = CacheInserts eq old new k pair.1 (Err pair)

module _ {K V S : Type 0} where
  -- if there are not n entries, only the last `cap` stay, and at capacity 0 the last one
  abbrev pub FitsUnless : ℕ → CacheState K V S → CacheState K V S → Type 0
  FitsUnless n old new =
      ((length old.map.entries ≡ n) × (new ≡ old))
      ⊎ ((length old.map.entries ≡ n → ⊥) × OnMap (λ a b. KeepsLast a b (max old.cap 1)) old new)

  -- the same, and then v was written as the last value
  abbrev pub FitsAndWritesLast : ℕ → CacheState K V S → CacheState K V S → V → Type 0
  FitsAndWritesLast n old new v =
      (c : CacheState K V S) × FitsUnless n old c
      × (new ≡ record c { map = with_value c.map (length c.map.entries - 1) v })

module _ {K V S T : Type 0} where
  -- the map of a cache
  abbrev pub map_of : LruCache K V S T → Keyed K V S
  map_of c = c.map

  -- the pairs, in order
  abbrev pub entries_of : LruCache K V S T → List (K × V)
  entries_of c = keyed.entries_of c.map

  -- the map's state and the capacity
  abbrev pub state_of : LruCache K V S T → CacheState K V S
  state_of c = record { map = keyed.state_of c.map; cap = c.capacity }

  -- the same cache with another map
  abbrev pub with_map : LruCache K V S T → Keyed K V S → LruCache K V S T
  with_map c m = record c { map = m }

  -- two caches with the same capacity
  abbrev pub SameCapacity : LruCache K V S T → LruCache K V S T → Type 0
  SameCapacity old new = new.capacity ≡ old.capacity
