-- A map during a drain, as contracts see it: as if the pairs that were taken out were still its entries.
use Rattle.std.specs.Prelude.{◌≡◌, ℕ, ◌+◌, ◌-◌, ◌*◌, ◌<◌, ◌≤◌, ◌^◌, min, List, length}
use Rattle.hashlink_model.specs.MapState.{MapState, map_state}
use denote.Struct.Props.{props}

-- the two links that took n pairs out of the ring count as stored by the step that takes the last pair
abbrev pub links_ahead : ℕ → ℕ
links_ahead n = min 2 (2 * n)

module _ {K V S : Type 0} where
  -- the map, which has no entry, as if these pairs were its entries
  abbrev pub state_with : MapState K V S → List (K × V) → MapState K V S
  state_with m ps = map_state ps m.spare m.room (m.link_writes - links_ahead (length ps)) m.hasher

  -- the map with one more free node
  abbrev pub with_free : MapState K V S → MapState K V S
  with_free m = record m { spare = m.spare + 1; link_writes = m.link_writes + 1 }

  -- the map has no entry, and room for n more free nodes
  pub record CanDrain (m : MapState K V S) (n : ℕ) : Type 0 where
    pub empty : length m.entries ≡ 0
    pub fits : n + m.spare ≤ m.room
    pub few : n + m.spare < 2 ^ 63
    pub stored : links_ahead n ≤ m.link_writes

  -- this is a proposition
  pub CanDrain-prop : (m : MapState K V S) (n : ℕ) → IsProp (CanDrain m n)
  CanDrain-prop m n = hlevel props
