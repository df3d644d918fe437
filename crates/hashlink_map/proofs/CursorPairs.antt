-- What a cursor is once a value was written through a key and a value that it lent, and what it lends at its
-- place and at the two neighbours. Assumes `Logic`.
use Rattle.hashlink_map.proofs.Names.{◌≡◌, ℕ, [], ◌∷◌, refl, ap, ◌∙◌, sym, subst, Ura, ent, SProp, id⊢, named}
use Rattle.hashlink_map.proofs.Names.{Logic, sem, follows_by, such_by, RattleType, OnSome, slice_get, Bor}
use Rattle.hashlink_map.proofs.Names.{MutBor, follows_if, Node, IsPlace, place_number, node_row}
use Rattle.hashlink_map.proofs.Names.{with_value_at, CursorMut, cursor_node, lent_pair, IsPlace-prop, param}
use Rattle.hashlink_map.proofs.Names.{Laws, NamedLft, CursorState, fres, entries_of, at-guard}
use Rattle.std.specs.{Prelude.{Option, Some, None}, Borrow.{Fml, name_if_some}}
use Rattle.hashlink_map.specs.contracts.as_node.NodeAsNode.TheImpl
use Rattle.hashlink_map.specs.contracts.cursor.CursorMut as cursor
use Rattle.hashlink_map.proofs.{Written.cursor_written, LendAtPlace.{Lending, LendingAt}}
use Rattle.hashlink_map.specs.Cursor.{cursor_map, cursor_state, CursorWritten, LentAt, TakesPlace}
use Rattle.hashlink_map.specs.CursorLends.{cursor_with, LendsAtCursorNode, LendsPairFromCursor}
use Rattle.hashlink_map.specs.Bounds.{EqGhosts, HashGhosts, HasherGhosts, BuilderGhosts, NodeGhosts}
use types.Kit.{‵, ◌$◌, ◌∵◌, !, qed, fpack, done}

module _ {K V S T : Type 0} {g : EqGhosts K} {h : HashGhosts K} {b : BuilderGhosts S T}
    {w : HasherGhosts T}
    {N : Type 0} {n : NodeGhosts N} (c : CursorMut K V S N T g h b w n) (at : Node) (v : V) where
  -- whatever proves that its place is still in the list
  pub cursor_with-is : (p : IsPlace (with_value_at c.map.now at v).nodes (cursor_node c))
      → record { map = record c.map { now = with_value_at c.map.now at v }; place = c.place; within = p }
      ≡ cursor_with c at v
  cursor_with-is p =
      ap (λ q. record (cursor_with c at v) { within = q })
      (IsPlace-prop (with_value_at c.map.now at v).nodes (cursor_node c) p (cursor_with c at v).within)

-- the pair of a node is the pair of its place; at the guard the cursor stays as it was
module _ (K V S T : RattleType) {g : EqGhosts K.Denot} {h : HashGhosts K.Denot}
    {b : BuilderGhosts S.Denot T.Denot}
    {w : HasherGhosts T.Denot}
    (c : MutBor (CursorMut K.Denot V.Denot S.Denot Node T.Denot g h b w TheImpl.ghosts)) where
  abbrev Row : RattleType
  Row = cursor.the_row (record { mir = named 1; lft = [] }) K V S node_row T g h b w TheImpl.ghosts

  abbrev Chosen : ℕ → Option (Bor K.Denot × MutBor V.Denot) → Type 0
  Chosen i r =
      (s : (V.Denot → Row.Denot) × Row.Denot) × ((u : V.Denot) → OnSome r (CursorWritten c.now (s.0 u) i u))
      × (((cursor_map s.1).ghost_name ≡ (cursor_map c.now).ghost_name)
      × ((cursor_map s.1).now ≡ (cursor_map c.now).now) × (cursor_state s.1 ≡ cursor_state c.now))

  abbrev Follows : (i : ℕ) (r : Option (Bor K.Denot × MutBor V.Denot)) → Chosen i r → Fml
  Follows i r s = follows_if Row V c.ghost_name (name_if_some (λ p. p.1.ghost_name) r) s.0.0 s.0.1

  module _ {M : Type 1} {𝓤 : Ura M} (𝓛 : Logic 𝓤) where
    pub lends_some : (at : Node) (q : Bor K.Denot × MutBor V.Denot)
        → ent 𝓤 (sem 𝓛 (LendsAtCursorNode K V S T c at q.1))
        (sem 𝓛 (LendsPairFromCursor K V S T c (place_number c.now.map.now.nodes (Some at)) (Some q)))
    unfolding follows_by such_by
    lends_some at q =
        let m = c.now.map.now in
        let i = place_number m.nodes (Some at) in
        qed 𝓛 (‵ (LendsAtCursorNode K V S T c at q.1) ∷ []) ∵ fpack ! (Chosen i (Some q))
        (Follows i (Some q)) (
          (cursor_with c.now at, c.now),
          (λ u. (refl, cursor_written m at (cursor_node c.now) i u refl)),
          (refl, refl, refl),
        )
        $ done !

    pub lends_none : (i : ℕ) → ent 𝓤 (sem 𝓛 (fres c.ghost_name (Row.coded.code c.now)))
        (sem 𝓛 (LendsPairFromCursor K V S T c i None))
    unfolding follows_by such_by
    lends_none i =
        qed 𝓛 (‵ (fres c.ghost_name (Row.coded.code c.now)) ∷ []) ∵ fpack ! (Chosen i None) (Follows i None)
        (((λ u. c.now), c.now), (λ u. tt), (refl, refl, refl)) $ done !

module _ (K V S T : RattleType) (LK : Laws K) (LV : Laws V) (p : EqGhosts K.Denot) (h : HashGhosts K.Denot)
    (b : BuilderGhosts S.Denot T.Denot) (w : HasherGhosts T.Denot) where
  abbrev pub Cursor : NamedLft → RattleType
  Cursor ℓ =
      cursor.the_row ℓ (param 0 K) (param 1 V) (param 2 S) node_row (param 3 T) p h b w TheImpl.ghosts

  abbrev Held : Type 0
  Held = CursorMut K.Denot V.Denot S.Denot Node T.Denot p h b w TheImpl.ghosts

  abbrev number : Held → Option Node → ℕ
  number c place = place_number c.map.now.nodes place

  module _ (place : CursorState K.Denot V.Denot S.Denot → ℕ) (r : MutBor Held) (q : MutBor Held × Option Node)
      (t : TakesPlace r (place (cursor_state r.now)) q) where
    abbrev here : MutBor Held × ℕ
    here = (r, place (cursor_state r.now))

    abbrev there : MutBor Held × ℕ
    there = (q.0, number q.0.now q.1)

    is_there : there ≡ here
    is_there = λ j. (t.0 j, (ap (λ x. number x.now q.1) t.0 ∙ t.1.number) j)

    pub is_place : IsPlace q.0.now.map.now.nodes q.1
    is_place = subst (λ x. IsPlace x.now.map.now.nodes q.1) (sym t.0) t.1.within

    pub lends_on : {M : Type 1} (𝓤 : Ura M) (𝓛 : Logic 𝓤) (o : Option (Bor K.Denot × MutBor V.Denot))
        → ent 𝓤 (sem 𝓛 (LendsPairFromCursor (param 0 K) (param 1 V) (param 2 S) (param 3 T) q.0
        (number q.0.now q.1) o))
        (sem 𝓛 (LendsPairFromCursor (param 0 K) (param 1 V) (param 2 S) (param 3 T) r
        (place (cursor_state r.now)) o))
    lends_on 𝓤 𝓛 o =
        let Lends : MutBor Held × ℕ → SProp 𝓤 = λ x. sem 𝓛 (LendsPairFromCursor (param 0 K) (param 1 V)
        (param 2 S) (param 3 T) x.0 x.1 o) in
        subst (λ x. ent 𝓤 (Lends there) (Lends x)) is_there (id⊢ 𝓤 _)

    pub lent_on : (o : Option (Bor K.Denot × MutBor V.Denot)) → LentAt (cursor_state q.0.now)
        (number q.0.now q.1) o
        → LentAt (cursor_state r.now) (place (cursor_state r.now)) o
    lent_on o = subst (λ (x : MutBor Held × ℕ). LentAt (cursor_state x.0.now) x.1 o) is_there

  -- at a node, and at a place
  abbrev pub at_node : {M : Type 1} {𝓤 : Ura M} (𝓛 : Logic 𝓤) → LendingAt K V LK LV Cursor 𝓛
  at_node 𝓛 = record {
    NodeTies = λ κs r n q. LendsAtCursorNode (param 0 K) (param 1 V) (param 2 S) (param 3 T) r n q.1;
    NodePair = λ κs r n q.
        slice_get (entries_of r.now.map.now) (number r.now (Some n)) ≡ Some (lent_pair q);
    Stands = λ κs q. IsPlace q.0.now.map.now.nodes q.1;
    Ties = λ κs q o. LendsPairFromCursor (param 0 K) (param 1 V) (param 2 S) (param 3 T) q.0
        (number q.0.now q.1) o;
    Pair = λ κs q o. LentAt (cursor_state q.0.now) (number q.0.now q.1) o;
    ties_some = λ κs r n q. lends_some (param 0 K) (param 1 V) (param 2 S) (param 3 T) r 𝓛 n q;
    pair_some = λ κs r n q has. sym has;
    ties_none = λ κs r. lends_none (param 0 K) (param 1 V) (param 2 S) (param 3 T) r 𝓛 (number r.now None);
    pair_none = λ κs r. sym (at-guard r.now.map.now);
  }

  -- at the place with the index `place`
  abbrev pub at_place : {M : Type 1} {𝓤 : Ura M} (𝓛 : Logic 𝓤)
      → (CursorState K.Denot V.Denot S.Denot → ℕ)
      → Lending K V LK LV Cursor 𝓛 (at_node 𝓛)
  at_place {𝓤 = 𝓤} 𝓛 place = record {
    Takes = λ κs r q. TakesPlace r (place (cursor_state r.now)) q;
    Lends = λ κs r o. LendsPairFromCursor (param 0 K) (param 1 V) (param 2 S) (param 3 T) r
        (place (cursor_state r.now)) o;
    Gives = λ κs r o. LentAt (cursor_state r.now) (place (cursor_state r.now)) o;
    stands = λ κs r q t. is_place place r q t;
    ties = λ κs r q o t pair. lends_on place r q t 𝓤 𝓛 o;
    gives = λ κs r q o t pair. lent_on place r q t o pair;
  }
