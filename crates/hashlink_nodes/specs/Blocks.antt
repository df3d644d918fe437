-- The blocks of some nodes, taken out of an arena one after another.
use Rattle.std.specs.{Prelude.{List, [], ◌∷◌, Option, None, Some, IsSome}, Map.{lookup, remove_entry}}
use Rattle.hashlink_nodes.specs.{declared.node.Node.Node, Node.same_node, Kept.Kept}

module _ {T : Type 0} where
  -- each of the nodes has a block, also after those before it were taken out
  abbrev pub AreFound : List Node → List (Node × Kept T) → Type 0
  AreFound [] bs = Unit {0}
  AreFound (n ∷ ns) bs = IsSome (lookup (same_node n) bs) × AreFound ns (remove_entry (same_node n) bs)

  abbrev pub with_block : Node → Option (Kept T) → List (Node × Kept T) → List (Node × Kept T)
  with_block n None bs = bs
  with_block n (Some k) bs = (n, k) ∷ bs

  -- the blocks of the nodes, and the other blocks
  abbrev pub blocks_of : List Node → List (Node × Kept T) → List (Node × Kept T)
  blocks_of [] bs = []
  blocks_of (n ∷ ns) bs =
      with_block n (lookup (same_node n) bs) (blocks_of ns (remove_entry (same_node n) bs))

  abbrev pub without : List Node → List (Node × Kept T) → List (Node × Kept T)
  without [] bs = bs
  without (n ∷ ns) bs = without ns (remove_entry (same_node n) bs)
