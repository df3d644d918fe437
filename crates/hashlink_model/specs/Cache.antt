-- Caches: a map and its capacity.
use Rattle.std.specs.Prelude.{◌≡◌, ℕ, ◌+◌, ◌-◌, ◌≤◌, ◌<◌, Bool, cond, List, [], ◌∷◌, length, drop, nat_lt, Ok}
use Rattle.std.specs.Prelude.{if◌then◌else◌, is_some, Option, Some, Result, MatchOption, MatchResult, fold}
use Rattle.std.specs.{Map.lookup, Option.option_map_or}
use Rattle.hashlink_model.specs.{Entries.{put, moved}, Entry.{EntryState, entry_of}}
use Rattle.hashlink_model.specs.MapState.{MapState, node_count, AddsEntry, PutsEntry, RefusesEntry}
use Rattle.hashlink_model.specs.Steps.{KeepsOnly, MovesMatch, MovesMatchAndWrites}

-- the map's state and the capacity
pub record CacheState (K V S : Type 0) : Type 0 where
  pub map : MapState K V S
  pub cap : ℕ

module _ {K V : Type 0} where
  -- the entries without the first, if there are more than `cap`; else all of them
  abbrev pub front_evicted : List (K × V) → ℕ → List (K × V)
  front_evicted es cap = if nat_lt cap (length es) then drop 1 es else es

  -- the last n entries, or all if there are fewer
  abbrev pub last_entries : List (K × V) → ℕ → List (K × V)
  last_entries es n = drop (length es - n) es

  module _ (eq : K → K → Bool) where
    -- the entries after an insert: the last `cap` of those after the map's insert
    abbrev pub cache_put : List (K × V) → ℕ → K → V → List (K × V)
    cache_put es cap k v = last_entries (put eq es k v (length es)) cap

    -- the entries after an insert of each pair in turn
    abbrev pub cache_extended : List (K × V) → ℕ → List (K × V) → List (K × V)
    cache_extended es cap pairs = fold (λ zs p. cache_put zs cap p.0 p.1) es pairs

    -- the entries after `get`: a hit moves its entry last
    abbrev pub cache_get : List (K × V) → K → List (K × V)
    cache_get es k = moved eq es k (length es)

    -- the entries after a use: a hit moves its entry last with its own value, and a miss inserts the pair
    abbrev pub cache_use : List (K × V) → ℕ → K → V → List (K × V)
    cache_use es cap k v = option_map_or (λ w. cache_get es k) (lookup (eq k) es) (cache_put es cap k v)

    -- the entries after a use of each pair in turn, beginning with none
    abbrev pub cache_uses : ℕ → List (K × V) → List (K × V)
    cache_uses cap pairs = fold (λ es p. cache_use es cap p.0 p.1) [] pairs

    -- the number of misses among the uses
    abbrev pub missed_uses : ℕ → List (K × V) → List (K × V) → ℕ
    missed_uses cap es [] = 0
    missed_uses cap es (p ∷ pairs) =
        cond (is_some (lookup (eq p.0) es)) 0 1 + missed_uses cap (cache_use es cap p.0 p.1) pairs

module _ {K V S : Type 0} where
  -- a step of the map, at the same capacity
  pub record OnMap (step : MapState K V S → MapState K V S → Type 0)
      (old new : CacheState K V S) : Type 0 where
    pub map : step old.map new.map
    pub cap : new.cap ≡ old.cap

  -- the entries are at most n more than the capacity
  abbrev pub IsWithin : CacheState K V S → ℕ → Type 0
  IsWithin c n = length c.map.entries ≤ c.cap + n

  -- there are more nodes than the capacity, and at least one is free
  pub record HasNodeToSpare (c : CacheState K V S) : Type 0 where
    pub beyond : c.cap < node_count c.map
    pub spare : 1 ≤ c.map.spare

  -- the first entry was evicted if there were more than `cap`, and its node is free
  abbrev pub EvictsFront : MapState K V S → MapState K V S → ℕ → Type 0
  EvictsFront old new cap = KeepsOnly old new (front_evicted old.entries cap)

  -- the last n entries are left, and the node of each evicted entry is free
  abbrev pub KeepsLast : MapState K V S → MapState K V S → ℕ → Type 0
  KeepsLast old new n = KeepsOnly old new (last_entries old.entries n)

  -- the capacity was set to n: the last n entries are left
  pub record SetsCapacity (old new : CacheState K V S) (n : ℕ) : Type 0 where
    pub map : KeepsLast old.map new.map n
    pub cap : new.cap ≡ n

  -- the map's insert led to the state `between`, of which the last `cap` entries are left
  pub record InsertsThenFits (step : MapState K V S → MapState K V S → Type 0) (cap : ℕ)
      (old new : MapState K V S) : Type 0 where
    pub between : MapState K V S
    pub inserts : step old between
    pub fits : KeepsLast between new cap

  -- `get` by a test: the first entry whose key passes moves last; if none passes, nothing changes
  abbrev pub CacheGetsMatch : (K → Bool) → CacheState K V S → CacheState K V S → Option V → Type 0
  CacheGetsMatch test old new r = OnMap (λ a b. MovesMatch test a b (length a.entries) r) old new

  -- `get_mut` by a test that passes a key, once w was written through the loan
  abbrev pub CacheGetsMatchAndWrites : (K → Bool) → CacheState K V S → CacheState K V S → V → Type 0
  CacheGetsMatchAndWrites test old new w =
      OnMap (λ a b. MovesMatchAndWrites test a b (length a.entries) w) old new

  module _ (eq : K → K → Bool) where
    -- the map's insert of the pair at the end, by its result w, if it is not refused
    abbrev pub InsertsLast : K → V → Option V → MapState K V S → MapState K V S → Type 0
    InsertsLast k v w old new =
        MatchOption w (AddsEntry eq old new k v (length old.entries))
        (PutsEntry eq old new k v (length old.entries))

    -- the cache's insert, by its result: if it is refused, it evicts nothing
    abbrev pub CacheInserts : CacheState K V S → CacheState K V S → K → V → Result (Option V) (K × V) → Type 0
    CacheInserts old new k v r =
        OnMap (λ a b. MatchResult r (λ w. InsertsThenFits (InsertsLast k v w) old.cap a b)
        (RefusesEntry eq a b k v))
        old new

    -- `get`: a hit moves its entry last, and a miss changes nothing
    abbrev pub CacheGets : CacheState K V S → CacheState K V S → K → Option V → Type 0
    CacheGets old new k r = CacheGetsMatch (eq k) old new r

    -- `get_mut` of a present key, once w was written through the loan
    abbrev pub CacheGetsAndWrites : CacheState K V S → CacheState K V S → K → V → Type 0
    CacheGetsAndWrites old new k w = CacheGetsMatchAndWrites (eq k) old new w

    -- `entry`: the first entry is evicted if there are too many, and then the key is looked up
    pub record EntersCache (old : CacheState K V S) (k : K) (e : EntryState K V S) : Type 0 where
      pub evicts : EvictsFront old.map e.map old.cap
      pub entry : e ≡ entry_of eq e.map k

    -- a use, by its result: a hit of `get`, or the insert of an absent key
    abbrev pub CacheUses : CacheState K V S → CacheState K V S → K → V → Result (Option V) (K × V) → Type 0
    CacheUses old new k v r =
        MatchOption (lookup (eq k) old.map.entries)
        (CacheInserts old new k v r) (λ w. (r ≡ Ok (Some w)) × CacheGets old new k (Some w))
