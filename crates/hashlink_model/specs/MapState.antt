-- A map, as contracts see it, and the steps between two such states. The contract of a call names its step.
use Rattle.std.specs.Prelude.{◌≡◌, ℕ, ◌-◌, ◌+◌, ◌*◌, ◌≤◌, ◌<◌, max, Bool, List, [], length, Option, None}
use Rattle.std.specs.{Prelude.{Some, Result, MatchOption, MatchResult, insert, remove}, Map.lookup}
use Rattle.std.specs.{Int.IsPowerOfTwo, Prelude.{◌⊎◌}}
use Rattle.hashlink_model.specs.Entries.{put, moved_at, set_value_at, set_key_at}

-- the entries, the number of free nodes, the room (for how many nodes), how many links were stored so far,
-- and the hasher
pub record MapState (K V S : Type 0) : Type 0 where
  pub entries : List (K × V)
  pub spare : ℕ
  pub room : ℕ
  pub link_writes : ℕ
  pub hasher : S

-- the count of stored links did not fall, and grew by at most `most`
pub record StoresAtMost (most old new : ℕ) : Type 0 where
  pub grows : old ≤ new
  pub bound : new ≤ old + most

-- a room that is ample for n nodes: at least twice n, or seven eighths of a power of two
abbrev pub IsAmple : ℕ → ℕ → Type 0
IsAmple n room = (2 * n ≤ room) ⊎ ((k : ℕ) × IsPowerOfTwo k × (8 * room ≡ 7 * k))

-- the room of a step that needs room for n nodes. If there was enough, it is unchanged; else it is at most
-- twice n, and at most 8 if n is below 4. If it grows, it is ample, so between two shrinks it grows at most
-- twice as often as the greatest n has binary digits
pub record RoomFor (n old new : ℕ) : Type 0 where
  pub grows : old ≤ new
  pub same : n ≤ old → new ≡ old
  pub bound : new ≤ max old (2 * max 4 n)
  pub ample : old < new → IsAmple n new

module _ {K V S : Type 0} where
  abbrev pub map_state : List (K × V) → ℕ → ℕ → ℕ → S → MapState K V S
  map_state es n r w s = record { entries = es; spare = n; room = r; link_writes = w; hasher = s }

  -- a new map: no entry, and no memory
  abbrev pub empty_map : S → MapState K V S
  empty_map s = map_state [] 0 0 0 s

  -- the number of a map's nodes: those of its entries and the free ones
  abbrev pub node_count : MapState K V S → ℕ
  node_count m = length m.entries + m.spare

  -- there is room for each node
  abbrev pub HasRoom : MapState K V S → Type 0
  HasRoom m = node_count m ≤ m.room

  -- every node is kept, and one is made only if there are more entries than nodes
  abbrev pub KeepsNodes : MapState K V S → MapState K V S → Type 0
  KeepsNodes old new = node_count new ≡ max (node_count old) (length new.entries)

  -- ---- changes of a state, by its entries `es` afterwards

  -- as many nodes are free as before, and at most `most` links were stored: a move, or a write of a key or a
  -- value
  pub record Changes (old new : MapState K V S) (es : List (K × V)) (most : ℕ) : Type 0 where
    pub entries : new.entries ≡ es
    pub spare : new.spare ≡ old.spare
    pub room : new.room ≡ old.room
    pub link_writes : StoresAtMost most old.link_writes new.link_writes
    pub hasher : new.hasher ≡ old.hasher

  -- a new pair was added, in a free node if there was one, and there is room for each node
  pub record Adds (old new : MapState K V S) (es : List (K × V)) : Type 0 where
    pub entries : new.entries ≡ es
    pub more : length es ≡ length old.entries + 1
    pub spare : new.spare ≡ old.spare - 1
    pub room : RoomFor (length es) old.room new.room
    pub fits : HasRoom new
    pub link_writes : StoresAtMost 4 old.link_writes new.link_writes
    pub hasher : new.hasher ≡ old.hasher

  -- an entry was removed, and its node is free
  pub record Removes (old new : MapState K V S) (es : List (K × V)) : Type 0 where
    pub entries : new.entries ≡ es
    pub fewer : length es + 1 ≡ length old.entries
    pub spare : new.spare ≡ old.spare + 1
    pub room : new.room ≡ old.room
    pub link_writes : StoresAtMost 3 old.link_writes new.link_writes
    pub hasher : new.hasher ≡ old.hasher

  -- only the room may have changed: it may have grown so that n more entries fit
  pub record Grows (n : ℕ) (old new : MapState K V S) : Type 0 where
    pub entries : new.entries ≡ old.entries
    pub spare : new.spare ≡ old.spare
    pub room : RoomFor (length old.entries + n) old.room new.room
    pub link_writes : new.link_writes ≡ old.link_writes
    pub hasher : new.hasher ≡ old.hasher

  -- ---- by places, counted from 0

  -- a new pair was added at the place b
  abbrev pub AddsAt : MapState K V S → MapState K V S → ℕ → K → V → Type 0
  AddsAt old new b k v = Adds old new (insert old.entries b (k, v))

  -- the entry at the place j was removed
  abbrev pub RemovesAt : MapState K V S → MapState K V S → ℕ → Type 0
  RemovesAt old new j = Removes old new (remove old.entries j)

  -- the entry at the place j moved to the place b
  abbrev pub MovesAt : MapState K V S → MapState K V S → ℕ → ℕ → Type 0
  MovesAt old new j b = Changes old new (moved_at old.entries j b) 6

  -- the entry at the place j has the value v now, or the key k
  abbrev pub WritesAt : MapState K V S → MapState K V S → ℕ → V → Type 0
  WritesAt old new j v = Changes old new (set_value_at old.entries j v) 0

  abbrev pub SetsKeyAt : MapState K V S → MapState K V S → ℕ → K → Type 0
  SetsKeyAt old new j k = Changes old new (set_key_at old.entries j k) 0

  -- the state with v as the value at the place j, which a write through a loan leaves
  abbrev pub with_value : MapState K V S → ℕ → V → MapState K V S
  with_value m j v = record m { entries = set_value_at m.entries j v }

  -- ---- an insert, by its result

  module _ (eq : K → K → Bool) where
    -- the only case in which an insert may be refused for memory: the key is absent, and no node is free
    pub record MayRefuse (old : MapState K V S) (k : K) : Type 0 where
      pub absent : lookup (eq k) old.entries ≡ None
      pub no_spare : old.spare ≡ 0

    -- an absent key was added at the place b
    pub record AddsEntry (old new : MapState K V S) (k : K) (v : V) (b : ℕ) : Type 0 where
      pub absent : lookup (eq k) old.entries ≡ None
      pub adds : Adds old new (put eq old.entries k v b)

    -- the present key was put at the place b with a new value, and its old value was w
    pub record PutsEntry (old new : MapState K V S) (k : K) (v : V) (b : ℕ) (w : V) : Type 0 where
      pub old_value : lookup (eq k) old.entries ≡ Some w
      pub puts : Changes old new (put eq old.entries k v b) 6

    -- an insert was refused, which it may be: the pair is handed back, and no entry and no free node changed
    pub record RefusesEntry (old new : MapState K V S) (k : K) (v : V) (pair : K × V) : Type 0 where
      pub may_refuse : MayRefuse old k
      pub handed_back : pair ≡ (k, v)
      pub grows : Grows 1 old new

    -- an insert at the place b
    abbrev pub Inserts : MapState K V S → MapState K V S → K → V → ℕ → Result (Option V) (K × V) → Type 0
    Inserts old new k v b r =
        MatchResult r (λ w. MatchOption w (AddsEntry old new k v b) (PutsEntry old new k v b))
        (RefusesEntry old new k v)
