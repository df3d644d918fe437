-- What the map ends as, from the entry that it was passed into and the pair that the entry lent. Assumes
-- `Logic`.
use Rattle.hashlink_map.proofs.Names.{◌≡◌, [], ◌∷◌, sym, subst, Ura, ent, sep, Logic, sem, follows_by}
use Rattle.hashlink_map.proofs.Names.{such_by, follows_then, Result, Ok, Err, IfOk, IfErr, OnErr, MatchResult}
use Rattle.hashlink_map.proofs.Names.{slice_get, Bor, MutBor, follows_if, IsEquivalence, MapState, AddsEntry}
use Rattle.hashlink_map.proofs.Names.{Keyed, state_of, Node, with_value_at, RawOccupiedEntryMut}
use Rattle.hashlink_map.proofs.Names.{raw_occupied_map, raw_occupied_state, raw_place, LendsPairOf}
use Rattle.std.specs.Prelude.{Some, length}
use Rattle.std.specs.Borrow.{Fml, ftrue, RattleType, RestsIfErr, follows, follows_so, name_if_ok}
use Rattle.hashlink_map.specs.contracts.as_node.NodeAsNode.TheImpl
use Rattle.hashlink_map.{specs.contracts.map.LinkedHashMap.the_row, proofs.AtNode.{adds-written, added-parts}}
use Rattle.hashlink_map.specs.Bounds.{EqGhosts, HashGhosts, HasherGhosts, BuilderGhosts}
use types.Kit.{‵, ◌$◌, ◌∵◌, !, qed, drop, move, use2, fpick, fpack, done}

module _ {K V S T : Type 0} {g : EqGhosts K} {h : HashGhosts K} {b : BuilderGhosts S T}
    {w : HasherGhosts T} where
  -- the pair at the entry's place is the one that was lent
  abbrev pub IsPairAt : RawOccupiedEntryMut K V S Node T g h b w TheImpl.ghosts → Bor K × MutBor V → Type 0
  IsPairAt o q = slice_get (raw_occupied_state o).map.entries (raw_place o) ≡ Some (q.0.now, q.1.now)

  module _ {E : Type 0} (entered : Result (RawOccupiedEntryMut K V S Node T g h b w TheImpl.ghosts) E) where
    abbrev pub OfEntry : (Bor K × MutBor V → Type 0) → Type 0
    OfEntry P = IfOk entered (λ o. (q : Bor K × MutBor V) → IsPairAt o q → P q)

    abbrev pub IsLent : Result (Bor K × MutBor V) E → Type 0
    IsLent r = IfOk r (λ q. MatchResult entered (λ o. IsPairAt o q) (λ _. ⊥))

    abbrev pub IsHandedOn : Result (Bor K × MutBor V) E → Type 0
    IsHandedOn r = IfErr r (λ e. entered ≡ Err e)

  -- what holds for the entry's pair holds for the pair that was lent; what holds for an error holds for the
  -- one handed on
  pub ok_carried : {E : Type 0} (x : Result (RawOccupiedEntryMut K V S Node T g h b w TheImpl.ghosts) E)
      (r : Result (Bor K × MutBor V) E) (P : Bor K × MutBor V → Type 0)
      → IsLent x r → OfEntry x P → IfOk r P
  ok_carried (Ok o) (Ok q) P has go = go q has
  ok_carried (Err e) (Ok q) P has go = absurd has
  ok_carried x (Err e) P has go = tt

  pub err_carried : {E : Type 0} (x : Result (RawOccupiedEntryMut K V S Node T g h b w TheImpl.ghosts) E)
      (r : Result (Bor K × MutBor V) E) (P : E → Type 0)
      → IsHandedOn x r → IfErr x P → IfErr r P
  err_carried x (Ok q) P is all = tt
  err_carried x (Err e) P is all = subst (λ y. IfErr y P) is all

  pub on_err_carried : {E : Type 0} (x : Result (RawOccupiedEntryMut K V S Node T g h b w TheImpl.ghosts) E)
      (r : Result (Bor K × MutBor V) E) (P : Type 0)
      → IsHandedOn x r → OnErr x P → OnErr r P
  on_err_carried x (Ok q) P is all = tt
  on_err_carried x (Err e) P is all = subst (λ y. OnErr y P) is all

  -- an entry whose pair was put last
  module _ (laws : IsEquivalence g.eq) (old : MapState K V S) (k : K) (v : V) {E : Type 0} where
    pub new_written : (x : Result (RawOccupiedEntryMut K V S Node T g h b w TheImpl.ghosts) E)
        → IfOk x (λ o. AddsEntry g.eq old (state_of (raw_occupied_map o).now) k v (length old.entries))
        → IfOk x (λ o. raw_place o ≡ length old.entries)
        → IfOk x (λ o. (q : Bor K × MutBor V) → IsPairAt o q → (u : V)
        → AddsEntry g.eq old (state_of (with_value_at o.map.now o.node u)) k u (length old.entries))
    new_written (Ok o) s place = λ q has. adds-written laws old o.map.now k v o.node s place
    new_written (Err e) s place = tt

    pub new_parts : (x : Result (RawOccupiedEntryMut K V S Node T g h b w TheImpl.ghosts) E)
        → IfOk x (λ o. AddsEntry g.eq old (state_of (raw_occupied_map o).now) k v (length old.entries))
        → IfOk x (λ o. raw_place o ≡ length old.entries)
        → OfEntry x (λ q. (q.0.now ≡ k) × (q.1.now ≡ v))
    new_parts (Ok o) s place = λ q. added-parts laws old o.map.now k v o.node s place (q.0.now, q.1.now)
    new_parts (Err e) s place = tt

module _ (K V S T : RattleType) (g : EqGhosts K.Denot) (h : HashGhosts K.Denot)
    (b : BuilderGhosts S.Denot T.Denot)
    (w : HasherGhosts T.Denot) (m : MutBor (Keyed K.Denot V.Denot S.Denot)) {E : Type 0}
    (P : Bor K.Denot × MutBor V.Denot → V.Denot → Keyed K.Denot V.Denot S.Denot → Type 0)
    (P₀ : E → Keyed K.Denot V.Denot S.Denot → Type 0) where
  abbrev Map : RattleType
  Map = the_row K V S T g h b w

  abbrev pub Rests : Result
      (RawOccupiedEntryMut K.Denot V.Denot S.Denot Node T.Denot g h b w TheImpl.ghosts) E
      → Fml
  Rests x = RestsIfErr Map m (λ o. (raw_occupied_map o).ghost_name) x (λ new. IfErr x (λ e. P₀ e new))

  abbrev pub Lends : Result (Bor K.Denot × MutBor V.Denot) E → Fml
  Lends r =
      follows_so Map V m.ghost_name (name_if_ok (λ q. q.1.ghost_name) r) (λ u new. IfOk r (λ q. P q u new))
      (λ new. IfErr r (λ e. P₀ e new))

  abbrev Chosen : Result (Bor K.Denot × MutBor V.Denot) E → Type 0
  Chosen r =
      (s : (V.Denot → Map.Denot) × Map.Denot) × ((u : V.Denot) → IfOk r (λ q. P q u (s.0 u))) × IfErr r
      (λ e. P₀ e s.1)

  abbrev Follows : (r : Result (Bor K.Denot × MutBor V.Denot) E) → Chosen r → Fml
  Follows r s = follows_if Map V m.ghost_name (name_if_ok (λ q. q.1.ghost_name) r) s.0.0 s.0.1

  -- the map rests in the entry, and the entry's map follows the value that was lent: so the map follows it
  module _ {M : Type 1} {𝓤 : Ura M} (𝓛 : Logic 𝓤) where
    pub carries : (x : Result (RawOccupiedEntryMut K.Denot V.Denot S.Denot Node T.Denot g
        h b w TheImpl.ghosts) E) (r : Result (Bor K.Denot × MutBor V.Denot) E)
        → IsLent x r → IsHandedOn x r
        → IfOk x (λ o. (q : Bor K.Denot × MutBor V.Denot) → IsPairAt o q → (u : V.Denot)
        → P q u (with_value_at o.map.now o.node u))
        → ent 𝓤 (sep 𝓤 (sem 𝓛 (Rests x)) (sem 𝓛 (LendsPairOf K V S T x r))) (sem 𝓛 (Lends r))
    unfolding follows_by such_by
    carries (Ok o) (Ok q) has is go =
        let F : V.Denot → Map.Denot = with_value_at o.map.now o.node in
        qed 𝓛 (‵ (Rests (Ok o)) ∷ ‵ (LendsPairOf K V S T {E = E} (Ok o) (Ok q)) ∷ []) ∵ fpick !
        (λ s.
        use2 𝓛 (‵ (follows Map V m.ghost_name q.1.ghost_name (λ u. s.0.0 (F u))))
        (follows_then 𝓛 Map Map V s.0.0 F m.ghost_name o.map.ghost_name q.1.ghost_name)
        $
        fpack ! (Chosen (Ok q)) (Follows (Ok q))
        (((λ u. s.0.0 (F u)), s.0.1), (λ u. subst (P q u) (sym (s.1 (F u))) (go q has u)), tt)
        $ done !)
    carries (Ok o) (Err e) has is go = absurd (cc)
    carries (Err e) (Ok q) has is go = absurd has
    carries (Err e) (Err f) has is go =
        let same : e ≡ f = cc in
        qed 𝓛 (‵ (Rests (Err e)) ∷ ‵ ftrue ∷ []) ∵ fpick !
        (λ s. move ! (1 ∷ []) $ drop ! $
        fpack ! (Chosen (Err f)) (Follows (Err f))
        (((λ u. s.0.1), s.0.1), (λ u. tt), subst (λ y. P₀ y s.0.1) same s.2)
        $ done !)
