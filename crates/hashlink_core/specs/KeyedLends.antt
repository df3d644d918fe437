-- A keyed list, after a `&mut` to one of its values has ended.
use Rattle.std.specs.{Prelude.{ℕ, Bool, List, Some}, Borrow.{Fml, RattleType, MutBor, Lends}}
use Rattle.std.specs.declared.hash.Hasher as hasher
use Rattle.std.specs.declared.hash.BuildHasher as builder
use Rattle.hashlink_nodes.specs.declared.node.Node.{Node}
use Rattle.hashlink_nodes.specs.contracts.node.Node as node
use Rattle.hashlink_core.specs.{contracts.keyed_list.KeyedList.the_row, Keyed.{Keyed, pair_with_value}}
use Rattle.hashlink_core.specs.Places.{place_number, renewed_at}

-- the value of K.Hash in a clause
abbrev pub HashMembers : Type 0 → Type 0
HashMembers K = record { eq : K → K → Bool; hash_input : K → List (List ℕ) }

abbrev pub list_row : (K V S T : RattleType) → HashMembers K.Denot → builder.Ghosts S.Denot T.Denot
    → hasher.Ghosts T.Denot → RattleType
list_row K V S T g b w = the_row K V S T (record { eq = g.eq }) (record { hash_input = g.hash_input }) b w

-- the row of a node, for clauses about types that have one
abbrev pub node_row : RattleType
node_row = node.the_row

-- the list with w as the value of the node's pair
abbrev pub with_value_at : {K V S : Type 0} → Keyed K V S → Node → V → Keyed K V S
with_value_at m n w = record m {
  nodes = renewed_at (pair_with_value w) m.nodes
      (place_number m.nodes (Some n));
}

abbrev pub LendsValueAt : (K V S T : RattleType) → HashMembers K.Denot → builder.Ghosts S.Denot T.Denot
    → hasher.Ghosts T.Denot → MutBor (Keyed K.Denot V.Denot S.Denot) → Node → MutBor V.Denot → Fml
LendsValueAt K V S T g b w m n v = Lends (list_row K V S T g b w) V m v (with_value_at m.now n)
