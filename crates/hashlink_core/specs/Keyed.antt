-- A keyed list, as contracts see it: the entries in order, each with its node, and a map's numbers and
-- hasher.
use Rattle.std.specs.{Prelude.{◌≡◌, ℕ, Bool, true, List, length, map, Some, IfSome}, Map.values_of}
use Rattle.hashlink_model.specs.{Entries.{IsEntries, place_of}, MapState.{MapState, map_state, HasRoom}}
use Rattle.hashlink_model.specs.Entry.{key_at}
use Rattle.hashlink_nodes.specs.{declared.node.Node.Node, Node.same_node, declared.entry.Entry.Entry}
use Rattle.hashlink_nodes.specs.Ring.{Ring, Holds, pair_of}
use Rattle.hashlink_table.specs.Contents.{Contents}
use Rattle.hashlink_core.specs.Places.{place_number}

-- the pairs with their nodes, the number of free nodes, the room, how many links were stored, and the hasher
pub record Keyed (K V S : Type 0) : Type 0 where
  pub nodes : List (Node × (K × V))
  pub spare : ℕ
  pub room : ℕ
  pub link_writes : ℕ
  pub hasher : S

module _ {K V : Type 0} where
  -- the ring's entries, as pairs with their nodes
  abbrev pub nodes_of : List (Node × Entry K V) → List (Node × (K × V))
  nodes_of = map (λ e. (e.0, pair_of e.1))

  -- the ring's pairs, in order
  abbrev pub pairs_in : List (Node × Entry K V) → List (K × V)
  pairs_in es = values_of (nodes_of es)

  -- the node is in the list, at the place of the first key that passes the test
  pub record HoldsMatch (test : K → Bool) (nodes : List (Node × (K × V))) (n : Node) : Type 0 where
    pub within : Holds nodes n
    pub place : place_of test (values_of nodes) ≡ Some (place_number nodes (Some n))

  -- the node is at the place of the key
  abbrev pub HoldsKey : (K → K → Bool) → List (Node × (K × V)) → K → Node → Type 0
  HoldsKey eq nodes k n = HoldsMatch (eq k) nodes n

  -- the key at the place passes the test
  abbrev pub PassesAt : (K → Bool) → List (K × V) → ℕ → Type 0
  PassesAt test es j = IfSome (key_at es j) (λ stored. test stored ≡ true)

  -- the key equals the key at the place
  abbrev pub EqualsKeyAt : (K → K → Bool) → List (K × V) → ℕ → K → Type 0
  EqualsKeyAt eq es j k = PassesAt (eq k) es j

  -- the pair with another value, and the pair with another key
  abbrev pub pair_with_value : V → K × V → K × V
  pair_with_value v p = (p.0, v)

  abbrev pub pair_with_key : K → K × V → K × V
  pair_with_key k p = (k, p.1)

module _ {K V S : Type 0} where
  abbrev pub keyed : List (Node × (K × V)) → ℕ → ℕ → ℕ → S → Keyed K V S
  keyed ns n r w s = record { nodes = ns; spare = n; room = r; link_writes = w; hasher = s }

  -- a ring of nodes, a table's contents and a hasher, as a keyed list
  abbrev pub seen_as : Ring K V → Contents Node → S → Keyed K V S
  seen_as r t s = keyed (nodes_of r.entries) (length r.free) t.room r.link_writes s

  -- the pairs, in order
  abbrev pub entries_of : Keyed K V S → List (K × V)
  entries_of m = values_of m.nodes

  -- the same without the nodes
  abbrev pub state_of : Keyed K V S → MapState K V S
  state_of m = map_state (entries_of m) m.spare m.room m.link_writes m.hasher

  -- an invariant of keyed lists: no two keys are equal, no node occurs twice, and there is room for each node
  pub record IsKeyed (eq : K → K → Bool) (m : Keyed K V S) : Type 0 where
    pub distinct : IsEntries eq (entries_of m)
    pub apart : IsEntries same_node m.nodes
    pub fits : HasRoom (state_of m)
