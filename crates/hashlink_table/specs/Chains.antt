-- How a `Table` keeps nodes in its slots, and chains guests. No public clause uses this module.
use Rattle.std.specs.Prelude.{◌≡◌, ◌≢◌, ℕ, ◌*◌, ◌/◌, ◌%◌, ◌^◌, ◌<◌, ◌≤◌, Bool, cond, List, [], ◌∷◌, map}
use Rattle.std.specs.Prelude.{Contains, length, max, Option, Some, None, slice_index_or}
use Rattle.std.specs.Int.{IsPowerOfTwo, bit_at}
use Rattle.hashlink_table.specs.{Contents.Contents, declared.hashed.Hashed.Hashed}
use Rattle.hashlink_table.specs.Stored.{bare_cell, no_guests, mask_bit_of}
use Rattle.hashlink_table.specs.declared.store.{cell.Cell.Cell, cell.TheConstants.END, head.Head.Head}

module _ {N : Type 0} where
  -- the node of a cell, if it is in its group, and if it is a guest
  abbrev pub own_of : Cell N → Option (Hashed N)
  own_of c = cond c.guest None c.kept

  abbrev pub guest_of : Cell N → Option (Hashed N)
  guest_of c = cond c.guest c.kept None

  abbrev pub kept_at : List (Cell N) → ℕ → Option (Hashed N)
  kept_at cells i = (slice_index_or cells i bare_cell).kept

  abbrev pub own_at : List (Cell N) → ℕ → Option (Hashed N)
  own_at cells i = own_of (slice_index_or cells i bare_cell)

  abbrev pub guest_at : List (Cell N) → ℕ → Option (Hashed N)
  guest_at cells i = guest_of (slice_index_or cells i bare_cell)

  abbrev pub next_at : List (Cell N) → ℕ → ℕ
  next_at cells i = (slice_index_or cells i bare_cell).next

  -- the bucket of a node among m, and the group of a guest, whose chain it is on; m if there is none
  abbrev pub bucket_in : ℕ → Option (Hashed N) → ℕ
  bucket_in m None = m
  bucket_in m (Some k) = k.hash % m

  abbrev pub chain_of : ℕ → Option (Hashed N) → ℕ
  chain_of m None = m
  chain_of m (Some k) = k.hash % m / 16

  -- the chain of the cell at this index
  abbrev pub chain_at : ℕ → List (Cell N) → ℕ → ℕ
  chain_at m cells i = chain_of m (guest_at cells i)

  -- the node of a cell, if it has one, before the nodes of later cells
  abbrev pub with_node : Option (Hashed N) → List (Hashed N) → List (Hashed N)
  with_node None ks = ks
  with_node (Some k) ks = k ∷ ks

  -- the nodes of these cells
  abbrev pub nodes_in : List (Cell N) → List (Hashed N)
  nodes_in [] = []
  nodes_in (c ∷ cs) = with_node c.kept (nodes_in cs)

  -- a node under its hash, as a slot has it; and one of these cells has it
  abbrev pub some_kept : ℕ → N → Option (Hashed N)
  some_kept hash node = Some (record { hash = hash; node = node })

  abbrev pub HasNode : List (Cell N) → ℕ → N → Type 0
  HasNode cells hash node = Contains (nodes_in cells) (record { hash = hash; node = node })

  -- a table with these slots, as a contract sees it
  abbrev pub contents : List (Cell N) → ℕ → Contents N
  contents slots room = record { nodes = nodes_in slots; room = room }

  -- the parts of a cell besides its link
  abbrev pub stored_in : Cell N → Option (Hashed N) × Bool
  stored_in c = (c.kept, c.guest)

  abbrev pub cell_at : List (Cell N) → ℕ → Option (Hashed N) × Bool
  cell_at cells i = stored_in (slice_index_or cells i bare_cell)

-- the first links of the chains
abbrev pub links_of : List Head → List ℕ
links_of heads = map (λ h. h.first) heads

abbrev pub first_at : List Head → ℕ → ℕ
first_at heads b = slice_index_or (links_of heads) b END

abbrev pub mask_at : List Head → ℕ → ℕ
mask_at heads b = (slice_index_or heads b no_guests).mask

-- a rank for each cell, and the lowest for the end
pub record Ranks : Type 0 where
  pub of : ℕ → ℕ
  pub top : ℕ
  pub ends : of END ≡ 0
  pub below : (i : ℕ) → of i < top
  pub apart : (i j : ℕ) → i ≤ END → j ≤ END → of i ≡ of j → i ≡ j

-- the next link of chain b after a cell of rank `from`: to the chain's cell with the highest rank below, or
-- to the end
pub record IsLink (rank chain : ℕ → ℕ) (b from to : ℕ) : Type 0 where
  pub on : to ≢ END → chain to ≡ b
  pub falls : rank to < from
  pub whole : (i : ℕ) → chain i ≡ b → rank i < from → rank i ≤ rank to

-- the links lead from the cell `from` along exactly the cells of chain b
pub record IsChain (next chain : ℕ → ℕ) (from b : ℕ) : Type 0 where
  pub rank : Ranks
  pub small : (i : ℕ) → chain i ≡ b → i < END
  pub started : IsLink rank.of chain b rank.top from
  pub linked : (i : ℕ) → chain i ≡ b → IsLink rank.of chain b (rank.of i) (next i)

-- each chain has its first link in the list
abbrev pub IsThreaded : List ℕ → (ℕ → ℕ) → (ℕ → ℕ) → Type 0
IsThreaded starts next chain =
    (b : ℕ) → b < length starts → IsChain next chain (slice_index_or starts b END) b

-- the guests of each group are exactly the cells of its chain
abbrev pub IsLinked : {N : Type 0} → List (Cell N) → List Head → Type 0
IsLinked slots heads = IsThreaded (links_of heads) (next_at slots) (chain_at (length slots) slots)

-- the same, except that the cell i is on no chain
abbrev pub IsLinkedBut : {N : Type 0} → List (Cell N) → List Head → ℕ → Type 0
IsLinkedBut slots heads i =
    (now : ℕ → ℕ) → length slots ≤ now i → ((j : ℕ) → j ≢ i → now j ≡ chain_at (length slots) slots j)
    → IsThreaded (links_of heads) (next_at slots) now

-- each cell keeps its node
abbrev pub SameNodes : {N : Type 0} → List (Cell N) → List (Cell N) → Type 0
SameNodes old new = map stored_in new ≡ map stored_in old

-- each chain that is not empty keeps its mask
abbrev pub SameMasks : List Head → List Head → Type 0
SameMasks old new =
    (length new ≡ length old) × ((b : ℕ) → first_at new b ≢ END → mask_at new b ≡ mask_at old b)

-- two buckets of one group
abbrev pub AreGrouped : ℕ → ℕ → Type 0
AreGrouped a b = a / 16 ≡ b / 16

-- a node that is no guest is in its group
abbrev pub IsInPlace : {N : Type 0} → List (Cell N) → Type 0
IsInPlace slots = (at : ℕ) (k : Hashed _) → own_at slots at ≡ Some k → AreGrouped (k.hash % length slots) at

-- the bit of each guest is in its chain's mask
abbrev pub IsCovered : {N : Type 0} → List (Cell N) → List Head → Type 0
IsCovered slots heads =
    (at : ℕ) (k : Hashed _) → guest_at slots at ≡ Some k
    → bit_at (mask_at heads (k.hash % length slots / 16)) (mask_bit_of k.hash) ≡ 1

-- the nodes are where a search looks for them
pub record IsArranged {N : Type 0} (slots : List (Cell N)) (heads : List Head) : Type 0 where
  pub linked : IsLinked slots heads
  pub in_place : IsInPlace slots
  pub covered : IsCovered slots heads
  pub paired : length heads ≡ length slots / 16

-- the number of slots of a table with this room
pub record AreSizes (count room : ℕ) : Type 0 where
  pub headed : 8 * room ≤ 7 * count
  pub bounded : count ≤ 4 * max 8 room
  pub none : room ≡ 0 → count ≡ 0
  pub small : count ≤ 2 ^ 31
  pub masked : 0 < count → IsPowerOfTwo count
  pub whole : count % 16 ≡ 0

-- the fields of a table agree
pub record IsSound {N : Type 0} (slots : List (Cell N)) (heads : List Head) (len room : ℕ) : Type 0 where
  pub arranged : IsArranged slots heads
  pub sizes : AreSizes (length slots) room
  pub counted : len ≡ length (nodes_in slots)
  pub held : len ≤ room
