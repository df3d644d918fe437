-- Parts of a ring's blocks: a path of entries, and its blocks taken out of the others.
use Rattle.std.specs.Prelude.{◌≡◌, ℕ, ◌+◌, true, false, List, length, Some, map, [], ◌∷◌, ◌++◌}
use Rattle.std.specs.{Map.keys_of, List.{AllByRecursion, IsDistinct}}
use Rattle.hashlink_nodes.specs.{declared.node.Node.Node, Node.same_node, Ring.{Entry, pair_of}}
use Rattle.hashlink_nodes.specs.{State.State, Shape.{IsChain, entries_of, walk}}

-- the nodes from the last to the first
abbrev pub backwards : List Node → List Node
backwards [] = []
backwards (n ∷ ns) = backwards ns ++ n ∷ []

module _ {K V : Type 0} where
  -- both states have the same block at n
  pub record Agree (n : Node) (old new : State K V) : Type 0 where
    pub next : new.next n ≡ old.next n
    pub prev : new.prev n ≡ old.prev n
    pub held : new.held n ≡ old.held n
    pub has : new.has n ≡ old.has n

  -- the nodes have no block any more, and no other node changed
  pub record Parts (ns : List Node) (old new : State K V) : Type 0 where
    pub others : (m : Node) → AllByRecursion (λ n. same_node m n ≡ false) ns → Agree m old new
    pub size : new.size + length ns ≡ old.size
    pub link_writes : new.link_writes ≡ old.link_writes

  -- the forward links lead from the first node along the entries, and the backward links from the last
  pub record IsPath (s : State K V) (first last : Node) (es : List (Node × Entry K V)) : Type 0 where
    pub on : IsChain s.next first (keys_of es)
    pub back : IsChain s.prev last (backwards (keys_of es))
    pub apart : IsDistinct same_node (keys_of es)
    pub full : AllByRecursion (λ e. s.held e.0 ≡ Some e.1) es
    pub there : AllByRecursion (λ n. s.has n ≡ true) (keys_of es)

  -- the entries of `len` nodes from the first on, and their pairs
  abbrev pub entries_from : State K V → Node → ℕ → List (Node × Entry K V)
  entries_from s first len = entries_of s.held (walk s.next first len)

  abbrev pub pairs_from : State K V → Node → ℕ → List (K × V)
  pairs_from s first len = map (λ e. pair_of e.1) (entries_from s first len)

  -- they are a path, and only their nodes have blocks
  pub record IsWhole (s : State K V) (first last : Node) (len : ℕ) : Type 0 where
    pub is_len : length (entries_from s first len) ≡ len
    pub path : IsPath s first last (entries_from s first len)
    pub size : s.size ≡ len
