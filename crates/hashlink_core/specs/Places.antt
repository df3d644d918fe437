-- The places of a list of entries, each with its node: a node of the list, or None for the guard, which is
-- after the last entry. The index of a node's place is counted from 0, and the guard's index is the length.
use Rattle.std.specs.Prelude.{◌≡◌, ℕ, zero, suc, List, [], ◌∷◌, length, Option, None, Some}
use Rattle.hashlink_model.specs.Entries.{place_or_end}
pub use Rattle.hashlink_nodes.specs.declared.node.Node.{Node}
use Rattle.hashlink_nodes.specs.Node.{same_node}
pub use Rattle.hashlink_nodes.specs.Ring.{Holds, IsPlace}

module _ {X : Type 0} where
  -- the index of a place
  abbrev pub place_number : List (Node × X) → Option Node → ℕ
  place_number ns None = length ns
  place_number ns (Some n) = place_or_end same_node ns n

  -- a place of the list, with the index i
  pub record IsPlaceAt (ns : List (Node × X)) (place : Option Node) (i : ℕ) : Type 0 where
    pub within : IsPlace ns place
    pub number : place_number ns place ≡ i

  -- the nodes stay, and what the one at the index j holds becomes f of it
  abbrev pub renewed_at : (X → X) → List (Node × X) → ℕ → List (Node × X)
  renewed_at f [] j = []
  renewed_at f (e ∷ es) zero = (e.0, f e.1) ∷ es
  renewed_at f (e ∷ es) (suc j) = e ∷ renewed_at f es j
