-- The state of an iterator along the ring, from both ends.
use Rattle.std.specs.Prelude.{◌≡◌, ℕ, ◌+◌, ◌<◌, ◌≤◌, List, length, take, drop, Option}
use Rattle.hashlink_nodes.specs.declared.{node.Node.Node, entry.Entry.Entry}
use Rattle.hashlink_core.specs.{Keyed.pairs_in, Places.place_number}

-- `count` pairs, from a place on
abbrev pub pairs_from : {K V : Type 0} → List (Node × Entry K V) → Option Node → ℕ → List (K × V)
pairs_from es place count = pairs_in (take count (drop (place_number es place) es))

-- an iterator with so many entries left has the first and the last of them as its places
pub record StandsBetween {X : Type 0} (es : List (Node × X)) (first last : Option Node)
    (left : ℕ) : Type 0 where
  pub few : place_number es first + left ≤ length es
  pub ends : 0 < left → place_number es last + 1 ≡ place_number es first + left
