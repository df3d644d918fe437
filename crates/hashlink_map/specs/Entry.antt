-- Entries with a given key, as contracts see them.
use Rattle.std.specs.{Prelude.{◌≡◌, ℕ, Option, Some, None, MatchOption, option_and_then}, Borrow.MutBor}
use Rattle.std.specs.Fn.{Once, FnOnceReturnsAtMut}
use Rattle.hashlink_map.specs.Bounds.{EqGhosts, HashGhosts, HasherGhosts, BuilderGhosts, NodeGhosts}
use Rattle.hashlink_map.specs.{Standing.still_holds_match, declared.entry.vacant.VacantEntry.VacantEntry}
use Rattle.hashlink_map.specs.declared.entry.{Entry.Entry, occupied.OccupiedEntry.OccupiedEntry}
use Rattle.hashlink_map.specs.declared.entry.Entry.TheVariants.{Occupied, Vacant}
use Rattle.hashlink_model.specs.{MapState.with_value, Entry.{EntryState, value_at}}
use Rattle.hashlink_core.specs.{Places.place_number, Keyed.{Keyed, state_of}, KeyedLends.with_value_at}

module _ {K V S : Type 0} where
  -- the value at the place, or `None` if there is no entry
  abbrev pub entry_value : EntryState K V S → Option V
  entry_value e = option_and_then (value_at e.map.entries) e.place

  -- f was called on the value, which it changed to w; a vacant entry stays as it is, and f is not called
  abbrev pub Modifies : {F : Type 0} → Once F (MutBor V × Unit {0}) (Unit {0} × (MutBor V × Unit {0})) → F
      → EntryState K V S → EntryState K V S
      → Type 0
  Modifies calls f old new =
      MatchOption old.place (new ≡ old)
      (λ j. (v : V) × (w : V) × (value_at old.map.entries j ≡ Some v) × FnOnceReturnsAtMut calls f v tt w
      × (new ≡ record old { map = with_value old.map j w }))

module _ {K V S T : Type 0} {g : EqGhosts K} {h : HashGhosts K} {b : BuilderGhosts S T}
    {w : HasherGhosts T} where
  -- ---- an occupied entry, whose node is of a type that represents nodes

  module _ {N : Type 0} {n : NodeGhosts N} where
    -- the map that it borrows
    abbrev pub occupied_map : OccupiedEntry K V S N T g h b w n → MutBor (Keyed K V S)
    occupied_map o = o.map

    -- the index of its place
    abbrev pub occupied_place : OccupiedEntry K V S N T g h b w n → ℕ
    occupied_place o = place_number o.map.now.nodes (Some (n.node o.node))

    abbrev pub occupied_state : OccupiedEntry K V S N T g h b w n → EntryState K V S
    occupied_state o = record { map = state_of o.map.now; place = Some (occupied_place o); key = o.key }

    -- the same given key, at the place p of the map as it is now
    abbrev pub StandsAt : OccupiedEntry K V S N T g h b w n → OccupiedEntry K V S N T g h b w n → ℕ → Type 0
    StandsAt old new p =
        occupied_state new ≡ record (occupied_state old) { map = (occupied_state new).map; place = Some p }

    -- the entry with v as its value
    abbrev pub occupied_with : OccupiedEntry K V S N T g h b w n → V → OccupiedEntry K V S N T g h b w n
    occupied_with o v =
        record o {
          map = record o.map { now = with_value_at o.map.now (n.node o.node) v };
          stands = still_holds_match v o.map.now.nodes (n.node o.node) o.stands;
        }

    -- v was written as the value, and nothing else changed
    abbrev pub IsWritten : OccupiedEntry K V S N T g h b w n → V → OccupiedEntry K V S N T g h b w n → Type 0
    IsWritten old v new =
        occupied_state new
        ≡ record (occupied_state old) { map = with_value (occupied_state old).map (occupied_place old) v }

  -- ---- a vacant one

  abbrev pub vacant_map : VacantEntry K V S T g h b w → MutBor (Keyed K V S)
  vacant_map e = e.map

  abbrev pub vacant_state : VacantEntry K V S T g h b w → EntryState K V S
  vacant_state e = record { map = state_of e.map.now; place = None; key = e.key }

  -- ---- either of them

  abbrev pub entry_map : Entry K V S T g h b w → MutBor (Keyed K V S)
  entry_map (Occupied o) = occupied_map o
  entry_map (Vacant e) = vacant_map e

  abbrev pub entry_state : Entry K V S T g h b w → EntryState K V S
  entry_state (Occupied o) = occupied_state o
  entry_state (Vacant e) = vacant_state e
