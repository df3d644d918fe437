-- How the links of the blocks make a ring and a free list.
use Rattle.std.specs.Prelude.{◌≡◌, ℕ, zero, suc, ◌+◌, ◌^◌, ◌<◌, true, List, [], ◌∷◌, ◌++◌, length, Option}
use Rattle.std.specs.{Prelude.{None, Some}, List.{AllByRecursion, IsDistinct}, Map.keys_of}
use Rattle.hashlink_nodes.specs.{declared.node.Node.Node, Node.same_node, Ring.{Entry, Ring}}
use Rattle.hashlink_nodes.specs.{State.State, Pool.state_of, declared.nodes.Nodes.TheInside.Inside}

-- f leads from a along the nodes to z, and b leads back
abbrev pub IsLinked : (Node → Node) → (Node → Node) → Node → List Node → Node → Type 0
IsLinked f b a [] z = (f a ≡ z) × (b z ≡ a)
IsLinked f b a (n ∷ ns) z = ((f a ≡ n) × (b n ≡ a)) × IsLinked f b n ns z

-- f leads from a, the first, along the nodes
abbrev pub IsChain : (Node → Node) → Node → List Node → Type 0
IsChain f a [] = Unit {0}
IsChain f a (n ∷ ns) = (a ≡ n) × IsChain f (f n) ns

-- the first `count` nodes on the path of f that begins at a
unfoldable pub walk : (Node → Node) → Node → ℕ → List Node
walk f a zero = []
walk f a (suc count) = a ∷ walk f (f a) count

module _ {K V : Type 0} where
  abbrev pub entry_of : Node → Option (Entry K V) → List (Node × Entry K V) → List (Node × Entry K V)
  entry_of n None es = es
  entry_of n (Some h) es = (n, h) ∷ es

  -- the nodes, with what each holds
  unfoldable pub entries_of : (Node → Option (Entry K V)) → List Node → List (Node × Entry K V)
  entries_of held [] = []
  entries_of held (n ∷ ns) = entry_of n (held n) (entries_of held ns)

  -- the links make a ring from the guard along the nodes of v and back, and a free list from `first`. Besides
  -- their nodes, only the nodes `out` have blocks. A contract sees all this as v
  pub record IsRing (s : State K V) (out : List Node) (guard first : Node) (v : Ring K V) : Type 0 where
    pub links : IsLinked s.next s.prev guard (keys_of v.entries) guard
    pub chain : IsChain s.next first v.free
    pub apart : IsDistinct same_node (out ++ guard ∷ (keys_of v.entries ++ v.free))
    pub full : AllByRecursion (λ e. s.held e.0 ≡ Some e.1) v.entries
    pub bare : AllByRecursion (λ n. s.held n ≡ None) (guard ∷ v.free)
    pub there : AllByRecursion (λ n. s.has n ≡ true) (out ++ guard ∷ (keys_of v.entries ++ v.free))
    pub size : s.size ≡ length out + length v.entries + length v.free + 1
    pub few : length out + length v.entries + length v.free < 2 ^ 63
    pub writes : s.link_writes ≡ v.link_writes

  -- the nodes in use, and the free nodes
  abbrev pub nodes_of : State K V → Option Node → ℕ → List Node
  nodes_of s None len = []
  nodes_of s (Some guard) len = walk s.next (s.next guard) len

  abbrev pub free_of : State K V → Option Node → Node → ℕ → List Node
  free_of s None first spare = []
  free_of s (Some guard) first spare = walk s.next first spare

  -- the ring, as a contract sees it
  abbrev pub ring_at : State K V → Option Node → Node → ℕ → ℕ → Ring K V
  ring_at s guard first len spare =
      record {
        entries = entries_of s.held (nodes_of s guard len);
        free = free_of s guard first spare;
        link_writes = s.link_writes;
      }

  -- as long as there is no guard, there is no block, and no link was stored
  abbrev pub SoundAt : State K V → Option Node → Node → ℕ → ℕ → Type 0
  SoundAt s None first len spare = (len ≡ 0) × (spare ≡ 0) × (s.size ≡ 0) × (s.link_writes ≡ 0)
  SoundAt s (Some guard) first len spare =
      (length (ring_at s (Some guard) first len spare).entries ≡ len)
      × IsRing s [] guard first (ring_at s (Some guard) first len spare)

  pub record IsSound (n : Inside K V) : Type 0 where
    pub at : SoundAt (state_of n.pool) n.guard n.first_spare n.len n.spare

  abbrev pub ring_of : Inside K V → Ring K V
  ring_of n = ring_at (state_of n.pool) n.guard n.first_spare n.len n.spare
