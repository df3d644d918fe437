-- A cursor, after a `&mut` to a value that it lent has ended.
use Rattle.std.specs.Prelude.{◌≡◌, ℕ, [], Option, Some, OnSome}
use Rattle.std.specs.Borrow.{Fml, RattleType, Bor, MutBor, Lends, LendsSo, follows_so, name_if_some}
use mir.Syntax.{named}
use Rattle.hashlink_map.specs.Bounds.{EqGhosts, HashGhosts, HasherGhosts, BuilderGhosts, NodeGhosts}
use Rattle.hashlink_model.specs.Cursor.{place_next, place_previous}
use Rattle.hashlink_core.specs.{Places.{Node, place_number}, KeyedLends.{node_row, with_value_at}}
use Rattle.hashlink_map.specs.contracts.cursor.CursorMut as cursor
use Rattle.hashlink_map.specs.{declared.cursor.CursorMut.CursorMut, Standing.still_placed}
use Rattle.hashlink_map.specs.Cursor.{cursor_map, cursor_node, cursor_state, CursorWritten}

module _ {K V S T : Type 0} {g : EqGhosts K} {h : HashGhosts K} {b : BuilderGhosts S T}
    {w : HasherGhosts T}
    {N : Type 0} {n : NodeGhosts N} where
  -- the cursor with v as the value of the node
  abbrev pub cursor_with : CursorMut K V S N T g h b w n → Node → V → CursorMut K V S N T g h b w n
  cursor_with c at v =
      let ns = c.map.now.nodes in
      record c {
        map = record c.map { now = with_value_at c.map.now at v };
        within = still_placed v ns (place_number ns (Some at)) (cursor_node c) c.within;
      }

module _ (K V S T : RattleType) {g : EqGhosts K.Denot} {h : HashGhosts K.Denot}
    {b : BuilderGhosts S.Denot T.Denot}
    {w : HasherGhosts T.Denot} {n : NodeGhosts Node} where
  -- the cursor ends with the written value at the place i, or at the guard as it was. Its lifetime is the
  -- second of the signature
  abbrev pub LendsFromCursor : MutBor (CursorMut K.Denot V.Denot S.Denot Node T.Denot g h b w n) → ℕ
      → Option (MutBor V.Denot)
      → Fml
  LendsFromCursor c i r =
      LendsSo (cursor.the_row (record { mir = named 1; lft = [] }) K V S node_row T g h b w n) V c r
      (λ new v. OnSome r (CursorWritten c.now new i v))
      (λ new. ((cursor_map new).ghost_name ≡ (cursor_map c.now).ghost_name)
      × ((cursor_map new).now ≡ (cursor_map c.now).now) × (cursor_state new ≡ cursor_state c.now))

  -- the same for a value that is lent together with its key
  abbrev pub LendsPairFromCursor : MutBor (CursorMut K.Denot V.Denot S.Denot Node T.Denot g h b w n) → ℕ
      → Option (Bor K.Denot × MutBor V.Denot)
      → Fml
  LendsPairFromCursor c i r =
      follows_so (cursor.the_row (record { mir = named 1; lft = [] }) K V S node_row T g h b w n)
      V c.ghost_name
      (name_if_some (λ p. p.1.ghost_name) r)
      (λ v new. OnSome r (CursorWritten c.now new i v))
      (λ new. ((cursor_map new).ghost_name ≡ (cursor_map c.now).ghost_name)
      × ((cursor_map new).now ≡ (cursor_map c.now).now) × (cursor_state new ≡ cursor_state c.now))

  -- the same at the next place, and at the previous one
  abbrev pub LendsNextPair : MutBor (CursorMut K.Denot V.Denot S.Denot Node T.Denot g h b w n)
      → Option (Bor K.Denot × MutBor V.Denot)
      → Fml
  LendsNextPair c r = LendsPairFromCursor c (place_next (cursor_state c.now)) r

  abbrev pub LendsPreviousPair : MutBor (CursorMut K.Denot V.Denot S.Denot Node T.Denot g h b w n)
      → Option (Bor K.Denot × MutBor V.Denot)
      → Fml
  LendsPreviousPair c r = LendsPairFromCursor c (place_previous (cursor_state c.now)) r

  -- the cursor ends with the written value at the node
  abbrev pub LendsAtCursorNode : MutBor (CursorMut K.Denot V.Denot S.Denot Node T.Denot g h b w n) → Node
      → MutBor V.Denot
      → Fml
  LendsAtCursorNode c at r =
      Lends (cursor.the_row (record { mir = named 1; lft = [] }) K V S node_row T g h b w n) V c r
      (cursor_with c.now at)
