-- Raw entries, as contracts see them, and the conditions that their callers may have to meet.
use Rattle.std.specs.Prelude.{◌≡◌, ℕ, Option, None, Some, MatchOption, slice_get, option_and_then}
use Rattle.std.specs.{Borrow.{Bor, MutBor}, Fn.{Shared, Once}}
use Rattle.hashlink_map.specs.Bounds.{EqGhosts, HashGhosts, HasherGhosts, BuilderGhosts, NodeGhosts}
use Rattle.hashlink_map.specs.{Standing.still_holds, declared.raw_entry.RawEntryMut.RawEntryMut}
use Rattle.hashlink_map.specs.declared.raw_entry.builders.RawEntryBuilder.{RawEntryBuilder}
use Rattle.hashlink_map.specs.declared.raw_entry.builders.RawEntryBuilderMut.{RawEntryBuilderMut}
use Rattle.hashlink_map.specs.declared.raw_entry.RawEntryMut.TheVariants.{Occupied, Vacant}
use Rattle.hashlink_map.specs.declared.raw_entry.occupied.RawOccupiedEntryMut.{RawOccupiedEntryMut}
use Rattle.hashlink_map.specs.declared.raw_entry.vacant.RawVacantEntryMut.{RawVacantEntryMut}
use Rattle.hashlink_model.specs.{MapState.with_value, Entry.RawEntryState}
use Rattle.hashlink_core.specs.{Places.place_number, Keyed.{Keyed, state_of}, KeyedLends.with_value_at}

-- the hasher may be called on the key, and returns its hash
pub record Hashes {K F : Type 0} (calls : Shared F (Bor K × Unit {0}) ℕ) (hash : K → ℕ) (hasher : F) (k : K)
    : Type 0 where
  pub callable : (x : Bor K) → x.now ≡ k → calls.pre hasher (x, tt)
  pub answers : (x : Bor K) (answer : ℕ) → x.now ≡ k → calls.post hasher (x, tt) answer → answer ≡ hash k

module _ {K V S : Type 0} where
  -- the pair at the place, or `None` if there is no entry
  abbrev pub raw_pair : RawEntryState K V S → Option (K × V)
  raw_pair r = option_and_then (slice_get r.map.entries) r.place

  -- f was called on the key and the value, which it changed to w; a vacant entry stays as it is, and f is not
  -- called
  abbrev pub RawModifies : {F : Type 0}
      → Once F (Bor K × (MutBor V × Unit {0})) (Unit {0} × (MutBor V × Unit {0})) → F
      → RawEntryState K V S → RawEntryState K V S
      → Type 0
  RawModifies calls f old new =
      MatchOption old.place (new ≡ old)
      (λ j. (k : Bor K) × (v left : MutBor V)
      × (slice_get old.map.entries j ≡ Some (k.now, v.now)) × calls.post f (k, (v, tt)) (tt, (left, tt))
      × (new ≡ record old { map = with_value old.map j left.now }))

module _ {K V S T : Type 0} where
  -- the map that a builder reads, and the one that it borrows
  abbrev pub read_map : RawEntryBuilder K V S T → Keyed K V S
  read_map b = b.map.now

  abbrev pub found_map : RawEntryBuilderMut K V S T → MutBor (Keyed K V S)
  found_map b = b.map

  -- a vacant entry
  abbrev pub raw_vacant_map : RawVacantEntryMut K V S T → MutBor (Keyed K V S)
  raw_vacant_map e = e.map

  abbrev pub raw_vacant_state : RawVacantEntryMut K V S T → RawEntryState K V S
  raw_vacant_state e = record { map = state_of e.map.now; place = None }

module _ {K V S T : Type 0} {g : EqGhosts K} {h : HashGhosts K} {b : BuilderGhosts S T}
    {w : HasherGhosts T} where
  -- ---- an occupied entry, whose node is of a type that represents nodes

  module _ {N : Type 0} {n : NodeGhosts N} where
    -- the map that it borrows
    abbrev pub raw_occupied_map : RawOccupiedEntryMut K V S N T g h b w n → MutBor (Keyed K V S)
    raw_occupied_map o = o.map

    -- the index of its place
    abbrev pub raw_place : RawOccupiedEntryMut K V S N T g h b w n → ℕ
    raw_place o = place_number o.map.now.nodes (Some (n.node o.node))

    abbrev pub raw_occupied_state : RawOccupiedEntryMut K V S N T g h b w n → RawEntryState K V S
    raw_occupied_state o = record { map = state_of o.map.now; place = Some (raw_place o) }

    -- the entry with v as its value
    abbrev pub raw_with : RawOccupiedEntryMut K V S N T g h b w n → V
        → RawOccupiedEntryMut K V S N T g h b w n
    raw_with o v =
        record o {
          map = record o.map { now = with_value_at o.map.now (n.node o.node) v };
          stands = still_holds v o.map.now.nodes (n.node o.node) o.stands;
        }

    -- v was written as the value, and nothing else changed
    abbrev pub RawIsWritten : RawOccupiedEntryMut K V S N T g h b w n → V
        → RawOccupiedEntryMut K V S N T g h b w n
        → Type 0
    RawIsWritten old v new =
        raw_occupied_state new
        ≡ record (raw_occupied_state old) { map = with_value (raw_occupied_state old).map (raw_place old) v }

  -- ---- either of them

  abbrev pub raw_map : RawEntryMut K V S T g h b w → MutBor (Keyed K V S)
  raw_map (Occupied o) = raw_occupied_map o
  raw_map (Vacant e) = raw_vacant_map e

  abbrev pub raw_state : RawEntryMut K V S T g h b w → RawEntryState K V S
  raw_state (Occupied o) = raw_occupied_state o
  raw_state (Vacant e) = raw_vacant_state e
