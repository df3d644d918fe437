-- Entries: the place of a key that was looked up in a map, occupied or vacant, and the steps at it.
use Rattle.std.specs.Prelude.{◌≡◌, ℕ, ◌<◌, Bool, List, length, slice_get, Option, Some, MatchOption, Result}
use Rattle.std.specs.{Prelude.MatchResult, Option.{option_map, option_map_or}, Map.lookup}
use Rattle.hashlink_model.specs.MapState.{MapState, Changes, AddsEntry, RefusesEntry, RemovesAt}
use Rattle.hashlink_model.specs.Entries.{place_of, put, set_value_at, set_key_at, moved_at}
use Rattle.hashlink_model.specs.MapState.{WritesAt, SetsKeyAt}

-- the map, the place of the entry, or `None` if it is vacant, and the given key
pub record EntryState (K V S : Type 0) : Type 0 where
  pub map : MapState K V S
  pub place : Option ℕ
  pub key : K

-- a raw entry has no given key
pub record RawEntryState (K V S : Type 0) : Type 0 where
  pub map : MapState K V S
  pub place : Option ℕ

module _ {K V : Type 0} where
  -- the key object and the value at the place j
  abbrev pub key_at : List (K × V) → ℕ → Option K
  key_at es j = option_map (λ e. e.0) (slice_get es j)

  abbrev pub value_at : List (K × V) → ℕ → Option V
  value_at es j = option_map (λ e. e.1) (slice_get es j)

  -- `replace_entry` at the place j with the given key h: h and the value are stored there
  abbrev pub replace_entry : List (K × V) → ℕ → K → V → List (K × V)
  replace_entry es j h v = set_key_at (set_value_at es j v) j h

  -- `insert` at the place j: the stored key moves last, with the new value
  abbrev pub insert_value : List (K × V) → ℕ → V → List (K × V)
  insert_value es j v = moved_at (set_value_at es j v) j (length es)

  -- `insert_entry` at the place j with the given key h: the entry is gone, and h and the value are last
  abbrev pub insert_entry : List (K × V) → ℕ → K → V → List (K × V)
  insert_entry es j h v = moved_at (replace_entry es j h v) j (length es)

  -- `or_insert`, by the key: a present key moves last with its own value, and an absent one is added last
  -- with the given value
  abbrev pub or_insert : (K → K → Bool) → List (K × V) → K → V → List (K × V)
  or_insert eq es k v = put eq es k (option_map_or (λ w. w) (lookup (eq k) es) v) (length es)

module _ {K V S : Type 0} where
  -- the place of a raw entry is that of an entry, or `None`
  abbrev pub IsRawEntry : RawEntryState K V S → Type 0
  IsRawEntry r = MatchOption r.place (Unit {0}) (λ j. j < length r.map.entries)

  -- ---- steps on an occupied entry at the place j, each with its result

  pub record InsertsValue (old new : MapState K V S) (j : ℕ) (v w : V) : Type 0 where
    pub answer : value_at old.entries j ≡ Some w
    pub step : Changes old new (insert_value old.entries j v) 6

  pub record InsertsEntry (old new : MapState K V S) (j : ℕ) (h : K) (v : V) (e : K × V) : Type 0 where
    pub answer : slice_get old.entries j ≡ Some e
    pub step : Changes old new (insert_entry old.entries j h v) 6

  pub record ReplacesEntry (old new : MapState K V S) (j : ℕ) (h : K) (v : V) (e : K × V) : Type 0 where
    pub answer : slice_get old.entries j ≡ Some e
    pub step : Changes old new (replace_entry old.entries j h v) 0

  pub record ReplacesKey (old new : MapState K V S) (j : ℕ) (h k : K) : Type 0 where
    pub answer : key_at old.entries j ≡ Some k
    pub step : SetsKeyAt old new j h

  pub record ReplacesValue (old new : MapState K V S) (j : ℕ) (v w : V) : Type 0 where
    pub answer : value_at old.entries j ≡ Some w
    pub step : WritesAt old new j v

  -- the entry is removed and returned
  pub record TakesEntry (old new : MapState K V S) (j : ℕ) (e : K × V) : Type 0 where
    pub answer : slice_get old.entries j ≡ Some e
    pub step : RemovesAt old new j

  -- what a raw lookup by a test returns: the place of the first key that passes
  abbrev pub raw_entry_match : (K → Bool) → MapState K V S → RawEntryState K V S
  raw_entry_match test m = record { map = m; place = place_of test m.entries }

  module _ (eq : K → K → Bool) where
    -- what `entry` returns for a key
    abbrev pub entry_of : MapState K V S → K → EntryState K V S
    entry_of m k = record { map = m; place = place_of (eq k) m.entries; key = k }

    abbrev pub raw_entry_of : MapState K V S → K → RawEntryState K V S
    raw_entry_of m k = raw_entry_match (eq k) m

    -- the place of an entry is that of its key
    abbrev pub IsEntry : EntryState K V S → Type 0
    IsEntry e = e.place ≡ place_of (eq e.key) e.map.entries

    -- a vacant entry's insert, by its result: the key is added last with the value, or the pair is handed
    -- back
    abbrev pub VacantInserts : {A : Type 0} → MapState K V S → MapState K V S → K → V
        → Result A (K × V) → Type 0
    VacantInserts old new k v r =
        MatchResult r (λ _. AddsEntry eq old new k v (length old.entries)) (RefusesEntry eq old new k v)
