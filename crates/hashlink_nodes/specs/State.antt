-- The contents of the blocks of a ring, at any node: its links and what it holds.
use Rattle.std.specs.Prelude.{ℕ, ◌+◌, ◌≡◌, Bool, true, false, cond, List, length, Option, None, Some, is_some}
use Rattle.std.{specs.Map.lookup, specs.Option.option_map}
use denote.RawPtr.{null_ptr}
use Rattle.hashlink_nodes.specs.{Node.same_node, declared.node.Node.Node, Ring.{Entry, held}}
use Rattle.hashlink_nodes.specs.Kept.{Kept, entry_in}

pub record State (K V : Type 0) : Type 0 where
  pub next : Node → Node
  pub prev : Node → Node
  pub held : Node → Option (Entry K V)
  -- whether a node has a block
  pub has : Node → Bool
  -- how many blocks there are
  pub size : ℕ
  pub link_writes : ℕ

-- the function f, with x at n instead
abbrev pub set_at : {X : Type 0} → (Node → X) → Node → X → Node → X
set_at f n x m = cond (same_node m n) x (f m)

abbrev pub Blocks : Type 0 → Type 0 → Type 0
Blocks K V = List (Node × Kept (K × V))

module _ {K V : Type 0} where
  -- at a node without a block: links that lead nowhere, and no entry
  abbrev pub next_in : Option (Kept (K × V)) → Node
  next_in None = record { at = null_ptr }
  next_in (Some b) = b.links.next.to

  abbrev pub prev_in : Option (Kept (K × V)) → Node
  prev_in None = record { at = null_ptr }
  prev_in (Some b) = b.links.prev.to

  abbrev pub held_in : Option (Kept (K × V)) → Option (Entry K V)
  held_in b = option_map (λ e. held e.0 e.1.0 e.1.1) (entry_in b)

  abbrev pub state : Blocks K V → ℕ → State K V
  state bs writes = record {
    next = λ n. next_in (lookup (same_node n) bs);
    prev = λ n. prev_in (lookup (same_node n) bs);
    held = λ n. held_in (lookup (same_node n) bs);
    has = λ n. is_some (lookup (same_node n) bs);
    size = length bs;
    link_writes = writes;
  }

  -- a link was stored
  unfoldable pub store_next : Node → Node → State K V → State K V
  store_next n to s = record s { next = set_at s.next n to; link_writes = s.link_writes + 1 }

  unfoldable pub store_prev : Node → Node → State K V → State K V
  store_prev n to s = record s { prev = set_at s.prev n to; link_writes = s.link_writes + 1 }

  -- n holds something else now
  unfoldable pub hold : Node → Option (Entry K V) → State K V → State K V
  hold n h s = record s { held = set_at s.held n h }

  -- old and new differ at most at n
  pub record Differs (n : Node) (old new : State K V) : Type 0 where
    pub next : (m : Node) → same_node m n ≡ false → new.next m ≡ old.next m
    pub prev : (m : Node) → same_node m n ≡ false → new.prev m ≡ old.prev m
    pub held : (m : Node) → same_node m n ≡ false → new.held m ≡ old.held m
    pub has : (m : Node) → same_node m n ≡ false → new.has m ≡ old.has m

  -- n is new and holds nothing; no clause tells where its links lead; no other node changed
  pub record Adds (n : Node) (old new : State K V) : Type 0 where
    pub differs : Differs n old new
    pub absent : old.has n ≡ false
    pub there : new.has n ≡ true
    pub bare : new.held n ≡ None
    pub size : new.size ≡ old.size + 1
    pub link_writes : new.link_writes ≡ old.link_writes

  -- g is new: it links to itself, and holds nothing
  pub record MakesGuard (g : Node) (old new : State K V) : Type 0 where
    pub adds : Adds g old new
    pub next : new.next g ≡ g
    pub prev : new.prev g ≡ g

  -- n, p and q have blocks
  pub record AreThere (s : State K V) (n p q : Node) : Type 0 where
    pub node : s.has n ≡ true
    pub prev : s.has p ≡ true
    pub next : s.has q ≡ true

  -- the neighbours of n link past it
  unfoldable pub detached : Node → State K V → State K V
  detached n s = store_prev (s.next n) (s.prev n) (store_next (s.prev n) (s.next n) s)

  -- n is linked in between p and q
  unfoldable pub attached : Node → Node → Node → State K V → State K V
  attached n p q s = store_prev q n (store_next p n (store_prev n p (store_next n q s)))

  -- n has no block any more, and no other node changed
  pub record Drops (n : Node) (old new : State K V) : Type 0 where
    pub differs : Differs n old new
    pub size : new.size + 1 ≡ old.size
    pub link_writes : new.link_writes ≡ old.link_writes

  -- g is the guard that was there, or one that was made
  abbrev pub GuardIs : State K V → State K V → Option Node → Node → Type 0
  GuardIs s s' None g = MakesGuard g s s'
  GuardIs s s' (Some x) g = (g ≡ x) × (s' ≡ s)
