-- An iterator that lends values for writing, as contracts see it, and the places that it has left.
use Rattle.std.specs.Prelude.{◌≡◌, ℕ, ◌+◌, ◌-◌, ◌<◌, List, ◌++◌, length, map, take, drop, Option, Some}
use Rattle.std.specs.Prelude.{MatchOption}
use Rattle.hashlink_model.specs.MapState.{MapState, with_value}
use Rattle.hashlink_core.specs.{Keyed.{Keyed, state_of}, Places.{Node, Holds, place_number}}
use Rattle.hashlink_core.specs.Walk.{StandsBetween}
use Rattle.hashlink_map.specs.declared.places_left.PlacesLeft.{PlacesLeft}
use denote.Struct.Props.{props}

-- the map, the index of the first place left, and how many entries are left
pub record WritingWalk (K V S : Type 0) : Type 0 where
  pub map : MapState K V S
  pub at : ℕ
  pub left : ℕ

module _ {K V S : Type 0} where
  abbrev pub writing_walk : MapState K V S → ℕ → ℕ → WritingWalk K V S
  writing_walk m i n = record { map = m; at = i; left = n }

  -- the entries left
  abbrev pub walk_rest : WritingWalk K V S → List (K × V)
  walk_rest w = take w.left (drop w.at w.map.entries)

  -- the index of the last place left
  abbrev pub last_place : WritingWalk K V S → ℕ
  last_place w = w.at + w.left - 1

  -- with the first entry left taken off, and with the last
  abbrev pub after_front : WritingWalk K V S → WritingWalk K V S
  after_front w = record w { at = w.at + 1; left = w.left - 1 }

  abbrev pub after_back : WritingWalk K V S → WritingWalk K V S
  after_back w = record w { left = w.left - 1 }

  -- with v written at the place j
  abbrev pub walk_with : WritingWalk K V S → ℕ → V → WritingWalk K V S
  walk_with w j v = record w { map = with_value w.map j v }

  -- a step returned an item if one was left, and else none
  abbrev pub HasLeft : {A : Type 0} → WritingWalk K V S → Option A → Type 0
  HasLeft w r = MatchOption r (w.left ≡ 0) (λ _. 0 < w.left)

  -- a walk from the front over a map that was `old`: the value of each entry so far is now f of the entry
  pub record WritesSoFar (f : K × V → V) (old : MapState K V S) (w : WritingWalk K V S) : Type 0 where
    pub whole : w.at + w.left ≡ length old.entries
    pub written : w.map ≡ record old {
      entries = map (λ e. (e.0, f e)) (take w.at old.entries) ++ drop w.at old.entries;
    }

  -- the node at the place j was taken, and the walk is `stepped`; or none is left, and it stays as it was
  abbrev pub TakesPlace : Keyed K V S → WritingWalk K V S → WritingWalk K V S → ℕ
      → WritingWalk K V S → Option Node
      → Type 0
  TakesPlace m old new j stepped r =
      MatchOption r ((old.left ≡ 0) × (new ≡ old))
      (λ n. Holds m.nodes n × (place_number m.nodes (Some n) ≡ j) × (0 < old.left) × (new ≡ stepped))

-- the places left are in the list; `node` returns the node that a value represents
module _ {N : Type 0} (node : N → Node) where
  abbrev pub StandsIn : {X : Type 0} → List (Node × X) → PlacesLeft N → Type 0
  StandsIn ns p = StandsBetween ns (Some (node p.first)) (Some (node p.last)) p.left

  -- this is a proposition
  pub StandsIn-prop : {X : Type 0} (ns : List (Node × X)) (p : PlacesLeft N) → IsProp (StandsIn ns p)
  StandsIn-prop ns p = hlevel props

  -- the walk over the map that has these places left
  abbrev pub walk_in : {K V S : Type 0} → Keyed K V S → PlacesLeft N → WritingWalk K V S
  walk_in m p = writing_walk (state_of m) (place_number m.nodes (Some (node p.first))) p.left
