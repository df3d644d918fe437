-- Cursors. The places of a list of n entries are 0 to n, in a ring: those of the entries, and n for the
-- guard.
use Rattle.std.specs.Prelude.{◌≡◌, ℕ, ◌+◌, ◌%◌, ◌≤◌, Bool, List, length, slice_get, Option, Result}
use Rattle.std.specs.Option.{option_map_or}
use Rattle.hashlink_model.specs.{Entries.place_or_end, MapState.{MapState, Inserts, with_value}}

-- the place after i, and the place before i, in a list of n entries
abbrev pub following_place : ℕ → ℕ → ℕ
following_place n i = (i + 1) % (n + 1)

abbrev pub preceding_place : ℕ → ℕ → ℕ
preceding_place n i = (i + n) % (n + 1)

-- a map, and the place of a cursor in it
pub record CursorState (K V S : Type 0) : Type 0 where
  pub map : MapState K V S
  pub place : ℕ

-- the place in the list `new` of a cursor that was at the place i of the list `old`: that of its entry now,
-- or the guard
abbrev pub place_kept : {K V : Type 0} → (K → K → Bool) → List (K × V) → List (K × V) → ℕ → ℕ
place_kept eq old new i = option_map_or (λ e. place_or_end eq new e.0) (slice_get old i) (length new)

module _ {K V S : Type 0} where
  -- the cursor is on an entry or on the guard
  abbrev pub IsCursor : CursorState K V S → Type 0
  IsCursor c = c.place ≤ length c.map.entries

  -- the entry at a place of the cursor's map, or `None` at the guard
  abbrev pub entry_in : CursorState K V S → ℕ → Option (K × V)
  entry_in c i = slice_get c.map.entries i

  -- the place after the cursor's, and the place before it
  abbrev pub place_next : CursorState K V S → ℕ
  place_next c = following_place (length c.map.entries) c.place

  abbrev pub place_previous : CursorState K V S → ℕ
  place_previous c = preceding_place (length c.map.entries) c.place

  -- the cursor on the place i, in the same map
  abbrev pub at_place : CursorState K V S → ℕ → CursorState K V S
  at_place c i = record c { place = i }

  -- the same cursor, after w was written as the value at the place i of its map
  abbrev pub with_value_in : CursorState K V S → ℕ → V → CursorState K V S
  with_value_in c i w = record c { map = with_value c.map i w }

  module _ (eq : K → K → Bool) where
    -- a cursor's insert at the place b, by its result: the map's insert there, after which the cursor is on
    -- its old entry or on the guard
    pub record CursorInserts (old new : CursorState K V S) (k : K) (v : V) (b : ℕ)
        (r : Result (Option V) (K × V)) : Type 0 where
      pub map : Inserts eq old.map new.map k v b r
      pub place : new.place ≡ place_kept eq old.map.entries new.map.entries old.place

    -- an insert directly before the cursor's place, and one directly after it
    abbrev pub InsertsBefore : CursorState K V S → CursorState K V S → K → V
        → Result (Option V) (K × V) → Type 0
    InsertsBefore old new k v r = CursorInserts old new k v old.place r

    abbrev pub InsertsAfter : CursorState K V S → CursorState K V S → K → V
        → Result (Option V) (K × V) → Type 0
    InsertsAfter old new k v r = CursorInserts old new k v (place_next old) r
