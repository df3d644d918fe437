-- A ring of nodes, as contracts see it: its entries in order, each with its node, the free nodes, and how
-- many links were stored. A place of the ring is a node of it, or None for the guard, which is between the
-- last entry and the first.
pub use Rattle.hashlink_nodes.specs.declared.entry.Entry.{Entry}
use Rattle.std.specs.Prelude.{◌≡◌, ℕ, cond, List, [], ◌∷◌, ◌++◌, slice_get, Option, None, Some, IsSome}
use Rattle.std.specs.{Prelude.IfSome, Map.{lookup, lookup_entry, remove_entry}}
use Rattle.hashlink_nodes.specs.{declared.node.Node.Node, Node.same_node}

-- the entries in the order of the ring, the free nodes in the order in which they will be used, and how many
-- links were stored in nodes of either kind
pub record Ring (K V : Type 0) : Type 0 where
  pub entries : List (Node × Entry K V)
  pub free : List Node
  pub link_writes : ℕ

-- the node directly after n, or None if n is the last
abbrev pub node_after : Node → List Node → Option Node
node_after n [] = None
node_after n (m ∷ ns) = cond (same_node n m) (slice_get ns 0) (node_after n ns)

-- the next place; after the guard, this is the first node
abbrev pub next_place : List Node → Option Node → Option Node
next_place ns None = slice_get ns 0
next_place ns (Some n) = node_after n ns

-- the last of the nodes, or `before` if there are none
abbrev pub last_node : Option Node → List Node → Option Node
last_node before [] = before
last_node before (m ∷ ns) = last_node (Some m) ns

-- the node directly before n; for the first node, this is `before`
abbrev pub node_before : Node → Option Node → List Node → Option Node
node_before n before [] = None
node_before n before (m ∷ ns) = cond (same_node n m) before (node_before n (Some m) ns)

-- the previous place; before the guard, this is the last node
abbrev pub prev_place : List Node → Option Node → Option Node
prev_place ns None = last_node None ns
prev_place ns (Some n) = node_before n None ns

module _ {X : Type 0} where
  -- the list with x directly before the entry of n
  abbrev pub put_before_node : Node → Node × X → List (Node × X) → List (Node × X)
  put_before_node n x [] = x ∷ []
  put_before_node n x (e ∷ es) = cond (same_node n e.0) (x ∷ e ∷ es) (e ∷ put_before_node n x es)

  -- the list with x directly before the place; before the guard, this is the end
  abbrev pub put_before : Option Node → Node × X → List (Node × X) → List (Node × X)
  put_before None x es = es ++ x ∷ []
  put_before (Some n) x es = put_before_node n x es

  -- the list with x directly after the entry of n
  abbrev pub put_after_node : Node → Node × X → List (Node × X) → List (Node × X)
  put_after_node n x [] = x ∷ []
  put_after_node n x (e ∷ es) = cond (same_node n e.0) (e ∷ x ∷ es) (e ∷ put_after_node n x es)

  -- the list with x directly after the place; after the guard, this is the front
  abbrev pub put_after : Option Node → Node × X → List (Node × X) → List (Node × X)
  put_after None x es = x ∷ es
  put_after (Some n) x es = put_after_node n x es

  -- n is a node of the ring
  abbrev pub Holds : List (Node × X) → Node → Type 0
  Holds es n = IsSome (lookup (same_node n) es)

  -- the guard, or a node of the ring
  abbrev pub IsPlace : List (Node × X) → Option Node → Type 0
  IsPlace es None = Unit {0}
  IsPlace es (Some n) = Holds es n

  -- the entry of n is taken out and inserted directly before the place
  abbrev pub MovesBefore : List (Node × X) → Node → Option Node → List (Node × X) → Type 0
  MovesBefore old n place new =
      IfSome (lookup_entry (same_node n) old) (λ e. new ≡ put_before place e (remove_entry (same_node n) old))

  -- the entry of n is taken out and inserted directly after the place
  abbrev pub MovesAfter : List (Node × X) → Node → Option Node → List (Node × X) → Type 0
  MovesAfter old n place new =
      IfSome (lookup_entry (same_node n) old) (λ e. new ≡ put_after place e (remove_entry (same_node n) old))

module _ {K V : Type 0} where
  abbrev pub held : ℕ → K → V → Entry K V
  held i k v = record { number = i; key = k; value = v }

  abbrev pub ring : List (Node × Entry K V) → List Node → ℕ → Ring K V
  ring es fs writes = record { entries = es; free = fs; link_writes = writes }

  abbrev pub pair_of : Entry K V → K × V
  pair_of h = (h.key, h.value)

  -- the same with another value
  abbrev pub with_value : Entry K V → V → Entry K V
  with_value h v = held h.number h.key v

  -- the same with another key
  abbrev pub with_key : Entry K V → K → Entry K V
  with_key h k = held h.number k h.value
