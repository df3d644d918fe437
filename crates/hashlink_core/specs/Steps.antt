-- The steps between two states of a keyed list, by the indices of places: the list of nodes afterwards, and
-- the step of a map.
use Rattle.std.specs.{Prelude.{◌≡◌, ℕ, ◌+◌, Bool, insert, remove, length, Option, None}, Map.lookup}
use Rattle.std.specs.Option.{option_map}
use Rattle.hashlink_nodes.specs.{declared.node.Node.Node, Node.same_node}
use Rattle.hashlink_model.specs.{Cursor.place_kept, Entries.moved_at}
use Rattle.hashlink_model.specs.MapState.{RoomFor, AddsAt, RemovesAt, MovesAt, WritesAt, SetsKeyAt}
use Rattle.hashlink_core.specs.Places.{Holds, IsPlace, place_number, renewed_at}
use Rattle.hashlink_core.specs.Keyed.{Keyed, entries_of, state_of, pair_with_value, pair_with_key}

module _ {K V S : Type 0} where
  -- a new node n with the pair was inserted at the place b
  pub record AddsNode (old new : Keyed K V S) (b : ℕ) (n : Node) (k : K) (v : V) : Type 0 where
    pub fresh : lookup (same_node n) old.nodes ≡ None
    pub nodes : new.nodes ≡ insert old.nodes b (n, (k, v))
    pub state : AddsAt (state_of old) (state_of new) b k v

  -- the node at the place j was removed
  pub record RemovesNode (old new : Keyed K V S) (j : ℕ) : Type 0 where
    pub nodes : new.nodes ≡ remove old.nodes j
    pub state : RemovesAt (state_of old) (state_of new) j

  -- the node at the place j moved to the place b
  pub record MovesNode (old new : Keyed K V S) (j b : ℕ) : Type 0 where
    pub nodes : new.nodes ≡ moved_at old.nodes j b
    pub state : MovesAt (state_of old) (state_of new) j b

  -- the pair at the place j has the value v now, or the key k
  pub record WritesNode (old new : Keyed K V S) (j : ℕ) (v : V) : Type 0 where
    pub nodes : new.nodes ≡ renewed_at (pair_with_value v) old.nodes j
    pub state : WritesAt (state_of old) (state_of new) j v

  pub record SetsNodeKey (old new : Keyed K V S) (j : ℕ) (k : K) : Type 0 where
    pub nodes : new.nodes ≡ renewed_at (pair_with_key k) old.nodes j
    pub state : SetsKeyAt (state_of old) (state_of new) j k

  -- the place p still is in the list, at the index that its entry has now, or it is the guard
  pub record KeepsPlace (eq : K → K → Bool) (old new : Keyed K V S) (p : Option Node) : Type 0 where
    pub within : IsPlace new.nodes p
    pub number : place_number new.nodes p
        ≡ place_kept eq (entries_of old) (entries_of new) (place_number old.nodes p)

  -- each node of the list is still there, with the key that it had
  abbrev pub KeepsKeys : Keyed K V S → Keyed K V S → Type 0
  KeepsKeys old new =
      (m : Node) → Holds old.nodes m
      → option_map (λ e. e.0) (lookup (same_node m) new.nodes)
      ≡ option_map (λ e. e.0) (lookup (same_node m) old.nodes)

  -- only the room may have changed: it may have grown so that n more nodes fit
  pub record GrowsRoom (n : ℕ) (old new : Keyed K V S) : Type 0 where
    pub more : RoomFor (length old.nodes + n) old.room new.room
    pub rest : new ≡ record old { room = new.room }
