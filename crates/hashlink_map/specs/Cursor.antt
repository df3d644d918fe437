-- Cursors, as contracts see them.
use Rattle.std.specs.{Prelude.{◌≡◌, ℕ, Option}, Borrow.{Bor, MutBor}, Option.option_map}
use Rattle.hashlink_map.specs.Bounds.{EqGhosts, HashGhosts, HasherGhosts, BuilderGhosts, NodeGhosts}
use Rattle.hashlink_map.specs.declared.cursor.CursorMut.{CursorMut}
use Rattle.hashlink_model.specs.Cursor.{CursorState, entry_in, with_value_in}
use Rattle.hashlink_core.specs.{Places.{Node, IsPlaceAt, place_number}, Keyed.{Keyed, state_of}}

-- the pair behind a reference to a key and one to its value
abbrev pub lent_pair : {K V : Type 0} → Bor K × MutBor V → K × V
lent_pair p = (p.0.now, p.1.now)

-- the pair at the place i is lent; at the guard, none is
abbrev pub LentAt : {K V S : Type 0} → CursorState K V S → ℕ → Option (Bor K × MutBor V) → Type 0
LentAt c i r = option_map lent_pair r ≡ entry_in c i

module _ {K V S T : Type 0} {g : EqGhosts K} {h : HashGhosts K} {b : BuilderGhosts S T}
    {w : HasherGhosts T}
    {N : Type 0} {n : NodeGhosts N} where
  -- the map that it borrows
  abbrev pub cursor_map : CursorMut K V S N T g h b w n → MutBor (Keyed K V S)
  cursor_map c = c.map

  -- its place: a node, or `None` for the guard
  abbrev pub cursor_node : CursorMut K V S N T g h b w n → Option Node
  cursor_node c = option_map n.node c.place

  -- its map, and the index of its place
  abbrev pub cursor_state : CursorMut K V S N T g h b w n → CursorState K V S
  cursor_state c = record { map = state_of c.map.now; place = place_number c.map.now.nodes (cursor_node c) }

  -- the cursor itself is returned, and the place of its map with the index i
  abbrev pub TakesPlace : MutBor (CursorMut K V S N T g h b w n) → ℕ
      → MutBor (CursorMut K V S N T g h b w n) × Option Node
      → Type 0
  TakesPlace c i r = (r.0 ≡ c) × IsPlaceAt c.now.map.now.nodes r.1 i

  -- the same cursor, after w was written as the value at the place i
  abbrev pub CursorWritten : CursorMut K V S N T g h b w n → CursorMut K V S N T g h b w n → ℕ → V → Type 0
  CursorWritten old new i v =
      ((cursor_map new).ghost_name ≡ (cursor_map old).ghost_name)
      × (cursor_state new ≡ with_value_in (cursor_state old) i v)
