-- A `Table`, as contracts see it.
use Rattle.std.specs.Prelude.{◌≡◌, ◌⊎◌, ℕ, ◌*◌, ◌%◌, ◌≤◌, ◌==◌, List, ◌∷◌, length, count_by, Contains, refl}
use Rattle.std.specs.Prelude.{Bool, false, true, Option, IfNone, IfSome, IsPermutation}
use Rattle.std.specs.{Int.IsPowerOfTwo, Coded.{Coded, code_by, coded×, coded_ℕ, coded_list}}
use Rattle.hashlink_table.specs.declared.hashed.Hashed.{Hashed}

-- the nodes with their hashes, in an order without meaning, and how many nodes fit without an allocation
pub record Contents (N : Type 0) : Type 0 where
  pub nodes : List (Hashed N)
  pub room : ℕ

-- a node with its hash is coded as a pair
abbrev pub kept_code : {N : Type 0} → Coded N → Coded (Hashed N)
kept_code {N} node =
    code_by
    (ℕ × N)
    (coded× coded_ℕ node)
    (λ k. (k.hash, k.node))
    (λ p. record { hash = p.0; node = p.1 })
    (λ _. refl)

-- contents are coded as the pair of their fields
abbrev pub contents_code : {N : Type 0} → Coded N → Coded (Contents N)
contents_code {N} node =
    code_by
    (List (Hashed N) × ℕ)
    (coded× (coded_list (kept_code node)) coded_ℕ)
    (λ t. (t.nodes, t.room))
    (λ p. record { nodes = p.0; room = p.1 })
    (λ _. refl)

-- a room to which a table grows that needs room for n nodes: at least twice n, or seven eighths of a power
-- of two
abbrev pub IsAmple : ℕ → ℕ → Type 0
IsAmple n room = (2 * n ≤ room) ⊎ ((k : ℕ) × IsPowerOfTwo k × (8 * room ≡ 7 * k))

module _ {N : Type 0} where
  -- the table has this node under this hash
  abbrev pub Keeps : Contents N → ℕ → N → Type 0
  Keeps t hash node = Contains t.nodes (record { hash = hash; node = node })

  -- a number of buckets: a power of two that is at least the room
  pub record AreBuckets (t : Contents N) (m : ℕ) : Type 0 where
    pub power : IsPowerOfTwo m
    pub roomy : t.room ≤ m

  -- for some number of buckets, both hashes belong to the same bucket
  abbrev pub ShareBucket : Contents N → ℕ → ℕ → Type 0
  ShareBucket t hash h = (m : ℕ) × AreBuckets t m × (h % m ≡ hash % m)

  -- each node of the hash's bucket may be asked about; and of the table's nodes, only those of this hash are
  -- accepted
  abbrev pub CanAsk : Contents N → ℕ → (N → Type 0) → Type 0
  CanAsk t hash asked = (h : ℕ) (node : N) → Keeps t h node → ShareBucket t hash h → asked node

  abbrev pub AcceptsOnly : Contents N → ℕ → (N → Type 0) → Type 0
  AcceptsOnly t hash accepted = (h : ℕ) (node : N) → Keeps t h node → accepted node → h ≡ hash

  -- this holds for each node of this hash
  abbrev pub EachKept : Contents N → ℕ → (N → Type 0) → Type 0
  EachKept t hash holds = (node : N) → Keeps t hash node → holds node

  -- a node of this hash that is accepted is removed and returned; or else each of this hash is refused, and
  -- nothing changes
  pub record Removes (old new : Contents N) (hash : ℕ) (answers : N → Bool → Type 0) (result : Option N)
      : Type 0 where
    pub removed : IfSome result (λ node.
        IsPermutation old.nodes (record { hash = hash; node = node } ∷ new.nodes) × answers node true)
    pub none : IfNone result (EachKept old hash (λ node. answers node false))
    pub unchanged : IfNone result (new ≡ old)
    pub room : new.room ≡ old.room

  -- the number of nodes
  abbrev pub len_of : Contents N → ℕ
  len_of t = length t.nodes

  -- the number of nodes whose hash agrees with this one modulo m
  abbrev pub agreeing : Contents N → ℕ → ℕ → ℕ
  agreeing t hash m = count_by (λ k. k.hash % m == hash % m) t.nodes
