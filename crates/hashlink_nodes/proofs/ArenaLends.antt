-- An arena lends a part of a block, by `&` and by `&mut`. The lemmas need the function's code, which only
-- computes an address, and the offset of the part in a block. Assumes `Logic`.
use Rattle.hashlink_nodes.proofs.Names
use Names.{word_had, part_of, Fn, Callee, Model, Closed, Running, fact_i, via, ex_i, Item, Step, step, mean}
use Names.{now, prop, upd, One, Signature, Slot, ◌+ₚ◌, Ended, Clauses, at_exit, closing, Meets, block_owns}
use Names.{blocks_own, blocks_lent, same_node, altered, Kept, alter, Node, Arena, ◌≡◌, ℕ, ◌+◌, List, [], ◌∷◌}
use Names.{◌++◌, refl, sym, Some, Bor, MutBor, lookup, remove_entry, Ura, full_share, named, Val, vptr, SProp}
use Names.{ent, sep, emp, never, id⊢, Fml, GName, ftrue, flft, fsep, WpFn, Logic, sem, ‵, raw, ◌⊛◌, some}
use Names.{later, ◌$◌, ◌∵◌, !, qed, by, move, keep, drop, split, split3, join, group, fsplit, fsplit3, fjoin}
use Names.{fpack, pick, await, rewrite, use0, use1, use2, suffices, feq_i, feq_l, done, fact, tables, RefOf}
use Names.{yes, no, follows, Part, lends_Part, mem, cell_at, hide, unhide, RattleType, owns, Ptr, block_ptr}
use Names.{null_ptr, in_a_block, lies_at, lent_at, MutRef, types_at, plain, mut_ref_to, param, nothing, heard}
use Names.{opens, Stays, stay_dropped, walk_of, Goes-dropped, Goes-spent_ref, word, proved_at, leaves, ◌⊑◌}
use Names.{enter, alloc_all, pass_all, env, first, blocks, sets, sets_last, is, of_opd, get_in, fld, stop}
use Names.{sub, whole, ptr_val, addr, through, exec, after, at_ret, get, returns, look_at, free_all}
use Names.{word-Good, Ty, ap, pointee, lone, layout, arena_row}
use mir.Syntax.{Mutability, erased, local, value_local, ty_ref, ty_ptr, seq, block, assign, place, rv_opd}
use mir.Syntax.{copy, field, deref, addr_of, return}
use Rattle.hashlink_nodes.specs.contracts.arena.Block as blocks
use mathlib.Core.Option.{some as just}
use prog.Memory.{field_of}
use Rattle.hashlink_nodes.proofs.ArenaSteps.{Mark, Nd, no_box, args_are}
use Rattle.hashlink_nodes.proofs.ArenaBlocks.{blocks_cut, blocks_glue}

-- the signature of a function that lends a part of the block of a node
abbrev signed : Slot 2 → Slot 2 → Signature
signed self result = record {
  lifetimes = 2;
  outlives = record { long = 1; long_ok = tt; short = named 0; short_ok = tt } ∷ [];
  params = self ∷ plain (λ _. Nd) ∷ [];
  result = result;
}

-- its code, if it lends the field k of a block by references of this mutability
abbrev lending : RattleType → RattleType → Mutability → ℕ → Fn
lending R P m k = record {
  lifetimes = 1;
  outlives = (1, 0) ∷ [];
  ty_params = [];
  givens = 0;
  params = 2;
  locals = local (ty_ref (named 0) m (pointee P.written)) value_local
      ∷ local (ty_ref (named 0) m (pointee (arena_row R).written)) value_local
      ∷ local (lone Nd.mir) value_local ∷ local (ty_ref erased m (pointee P.written)) value_local
      ∷ local ty_ptr value_local ∷ [];
  body = seq (block (seq (assign (place 4 []) (rv_opd (copy (place 2 (field 0 ∷ [])))))
      (assign (place 3 []) (addr_of (place 4 (deref (layout (blocks.the_row R)) ∷ field k ∷ []))))))
      (seq (assign (place 0 []) (rv_opd (copy (place 3 [])))) return);
}

module _ {M : Type 1} (𝓤 : Ura M) (𝓛 : Logic 𝓤) (𝓜 : Model 𝓤 𝓛.H) (𝓡 : Running 𝓤 𝓛.H 𝓜) (T P : RattleType)
    (one : One P.mir) (off : ℕ) (key : Callee) (m : Mutability) (nth : ℕ) where
  open 𝓛 use {H}

  abbrev R : RattleType
  R = param 0 T

  -- the returned address is that of the part of the block at p
  abbrev Address : Ptr → (Val → SProp 𝓤) → Item 𝓤
  Address p Post =
      some (λ (x : ℕ × ℕ). raw (fact 𝓤 (p ≡ block_ptr x.0 x.1)) ⊛ raw (Post (vptr x.0 (x.1 + off))))

  abbrev fn : Fn
  fn = lending R P m nth

  abbrev Runs : List Val → (Val → SProp 𝓤) → SProp 𝓤
  Runs vs Post = let 𝓣 = tables 𝓤 H 𝓜 𝓡 𝓡.env in WpFn 𝓤 H 𝓣.C 𝓣.Λ fn vs Post

  -- the code returns this address
  found : {τ : Ty} → field_of (layout (blocks.the_row R)) nth ≡ just (τ, off) → (Post : Val → SProp 𝓤)
      (rb ro : ℕ) (p : Ptr) (Q : SProp 𝓤)
      → ent 𝓤 Q (mean 𝓛 (later (Address p Post))) → ent 𝓤 Q (Runs (vptr rb ro ∷ word p ∷ []) Post)
  found e Post rb ro p Q ran =
      let 𝓣 = tables 𝓤 H 𝓜 𝓡 𝓡.env in
      qed 𝓛 (raw Q ∷ []) ∵ enter ! 𝓣.C 𝓣.Λ fn (vptr rb ro ∷ word p ∷ []) Post $
      alloc_all ! (λ l. pass_all ! refl ((tt, tt), (word-Good [] p, tt)) $ let Ev = env fn.locals l in
      use1 𝓛 (later (Address p Post)) ran $ await ! tt $
      pick ! (λ x. split ! $ heard ! _ (λ at. first ! $ blocks ! $
      sets ! (is ! (of_opd ! (get_in ! (fld ! refl (stop !)) (sub ! 0 refl (whole !)))) (ap ptr_val at)) refl
      (tt, tt) $
      sets_last ! (addr ! (through ! refl (fld ! e (stop !)))) refl (tt, tt) $
      exec ! 𝓣.C 𝓣.Λ Ev (after 1 fn.body) (at_ret Ev Post) $ sets ! (of_opd ! (get ! refl)) refl (tt, tt) $
      returns ! (look_at ! 0 refl) $ free_all ! refl $ keep ! (0 ∷ []) $ done !)))

  begins : {K : Type 0} {Γ : List (Item 𝓤)} {τ : Ty} → K
      → field_of (layout (blocks.the_row R)) nth ≡ just (τ, off)
      → (Post : Val → SProp 𝓤) (rb ro : ℕ) (p : Ptr)
      → Step K 𝓛 Γ (upd (mean 𝓛 (Address p Post))) Γ (prop (Runs (vptr rb ro ∷ word p ∷ []) Post))
  begins t e Post rb ro p = step (λ s. record { prf = found e Post rb ro p _ s.prf })

  addressed : (Post : Val → SProp 𝓤) (p : Ptr) (b o : ℕ) → p ≡ block_ptr b o
      → ent 𝓤 (Post (vptr b (o + off))) (mean 𝓛 (Address p Post))
  addressed Post p b o e =
      via 𝓤 (sep 𝓤 (fact 𝓤 (p ≡ block_ptr b o)) (Post (vptr b (o + off))))
      (qed 𝓛 (raw (Post (vptr b (o + off))) ∷ []) ∵
      use0 𝓛 (raw (fact 𝓤 (p ≡ block_ptr b o))) (fact_i 𝓤 (p ≡ block_ptr b o) (emp 𝓤) e) $ join ! $ done !)
      (ex_i 𝓤 (λ (x : ℕ × ℕ). sep 𝓤 (fact 𝓤 (p ≡ block_ptr x.0 x.1)) (Post (vptr x.0 (x.1 + off)))) (b, o))

  -- a part is lent by `&`, and by `&mut`
  abbrev S : Ended
  S = record {
    signature = signed (RefOf (0 ∷ []) tt (plain (λ _. arena_row R)) (λ _. tt))
        (RefOf (0 ∷ []) tt (plain (λ _. P)) (λ _. one));
    kept = (yes, (yes, tt));
  }

  abbrev S' : Ended
  S' = record {
    signature = signed (mut_ref_to (0 ∷ []) tt (plain (λ _. arena_row R)))
        (mut_ref_to (0 ∷ []) tt (plain (λ _. P)));
    kept = (no, (yes, tt));
  }

  module _ (closed : let 𝓣 = tables 𝓤 H 𝓜 𝓡 𝓡.env in Closed 𝓤 H 𝓣.C 𝓣.Λ key fn) where
    module _ (c : Clauses 𝓤 S) where
      abbrev pub shared_stays : Stays S.signature.params S.kept
      shared_stays = (
        stay_dropped (RefOf (0 ∷ []) tt (plain (λ _. arena_row R)) (λ _. tt)) yes,
        (stay_dropped (plain (λ _. Nd)) yes, tt),
      )

      abbrev Z : Type 0
      Z = (walk_of 𝓛 S shared_stays c).Ghost

      -- what the function requires, and what is then seen of the part
      pub record Shares : Type 2 where
        pub Asked : Arena R.Denot → Node → Type 0
        pub Seen : (a : Arena R.Denot) (n : Node) → Asked a n → Type 0
        pub part : (a : Arena R.Denot) (n : Node) → Asked a n → P.Denot
        pub asks : (z : Z)
            → ent 𝓤 ((c z.0.0 z.0.3).requires z.1)
            (sep 𝓤 (fact 𝓤 (z.0.0.1.0 ⊑ T.lives)) (fact 𝓤 (Asked z.0.3.0.now z.0.3.1.0)))
        pub shows : (z : Z) (held : Asked z.0.3.0.now z.0.3.1.0)
            → ent 𝓤 (sem 𝓛 (blocks_lent R z.0.3.0.now.blocks z.0.0.0))
            (sep 𝓤 (sem 𝓛 (lent_at P (z.0.3.1.0.at +ₚ off) (part _ _ held) z.0.0.0)) (fact 𝓤 (Seen _ _ held)))
        pub says : (z : Z) (held : Asked z.0.3.0.now z.0.3.1.0)
            → Seen _ _ held → (at : ℕ × ℕ)
            → ent 𝓤 (emp 𝓤)
            ((c z.0.0 z.0.3).ensures z.1 (record { ref_ptr = at; now = part _ _ held })
            (at_exit S z.0.0 z.0.3 (tt, (tt, tt))))

      pub shared : {τ : Ty} → field_of (layout (blocks.the_row R)) nth ≡ just (τ, off) → Shares
          → Meets 𝓛 S.signature (let 𝓣 = tables 𝓤 H 𝓜 𝓡 𝓡.env in 𝓣.C key)
          (closing 𝓛 S c)
      shared at_k s =
          proved_at 𝓛 S shared_stays c 𝓜 𝓡 (
            Goes-dropped 𝓛 2 (RefOf (0 ∷ []) tt (plain (λ _. arena_row R)) (λ _. tt)) yes (λ κs x f. refl),
            (Goes-dropped 𝓛 2 (plain (λ _. Nd)) yes (λ κs x f. refl), tt),
          )
          key fn closed (λ z are.
          let κs = z.0.0 in let qs = z.0.1 in
          let Post : Val → SProp 𝓤 = (walk_of 𝓛 S shared_stays c).post z in
          let Run : List Val → SProp 𝓤 = λ ws. Runs ws Post in
          let a = z.0.3.0.now in let rb = z.0.3.0.ref_ptr.0 in let ro = z.0.3.0.ref_ptr.1 in
          let n = z.0.3.1.0 in
          let toks = ‵ (flft κs.0 qs.0) ⊛ ‵ (flft κs.1.0 qs.1.0) ⊛ ‵ ftrue in
          qed 𝓛 ((toks ⊛ ‵ (owns (types_at S.signature.params κs) z.0.3 z.0.4)) ∷ raw
          ((c κs z.0.3).requires z.1) ∷ []) ∵
          split ! $ move ! (2 ∷ []) $
          use1 𝓛 (raw (fact 𝓤 (κs.1.0 ⊑ T.lives)) ⊛ raw (fact 𝓤 (s.Asked a n))) (s.asks z) $ split ! $
          drop ! $ heard ! _ (λ held.
          let w = s.part a n held in
          move ! (1 ∷ []) $ fsplit ! $ fsplit ! $ feq_l !
          (λ e0. move ! (1 ∷ []) $ fsplit ! $ word_had no_box [] n.at ! z.0.4.1.0 (λ e1. drop ! $
          args_are ! (λ (ws : List Val × List Val). Run (ws.0 ++ (ws.1 ++ []))) (λ j. (sym e0 j, sym e1 j)) $
          begins ! at_k Post rb ro n.at $ unhide ! $ fsplit ! $ drop ! $
          use1 𝓛 (‵ (lent_at P (n.at +ₚ off) w κs.0) ⊛ raw (fact 𝓤 (s.Seen a n held))) (s.shows z held) $
          split ! $ move ! (1 ∷ []) $ heard ! _ (λ seen.
          in_a_block ! n.at (λ p. lent_at P (p +ₚ off) w κs.0)
          (qed 𝓛 (‵ (lent_at P null_ptr w κs.0) ∷ []) ∵ fsplit ! $ keep ! (0 ∷ []) $ done !) (λ b o e.
          let out : Bor P.Denot = record { ref_ptr = (b, o + off); now = w } in
          now ! $ suffices ! (Post (vptr b (o + off))) (addressed Post n.at b o e) $
          fsplit ! $ drop ! $ hide ! $
          feq_i ! (List Val) (vptr b (o + off) ∷ []) (vptr b (o + off) ∷ []) refl $ fjoin ! $
          use0 𝓛 (raw ((c κs z.0.3).ensures z.1 out (at_exit S κs z.0.3 (tt, (tt, tt)))))
          (s.says z held seen (b, o + off)) $
          nothing ! $ nothing ! $ fjoin ! $ nothing ! $ fjoin ! $ keep ! (3 ∷ 0 ∷ 2 ∷ 1 ∷ []) $ by !
          (leaves 𝓛 S shared_stays c z (vptr b (o + off)) out (tt, (tt, tt))
          (tt, (tt, tt)))))))))

    module _ (c : Clauses 𝓤 S') where
      abbrev pub lent_stays : Stays S'.signature.params S'.kept
      lent_stays = (
        stay_dropped (mut_ref_to (0 ∷ []) tt (plain (λ _. arena_row R))) no,
        (stay_dropped (plain (λ _. Nd)) yes, tt),
      )

      abbrev Z' : Type 0
      Z' = (walk_of 𝓛 S' lent_stays c).Ghost

      -- `part` is taken out of what the block k owns, and any w can be put there
      pub record Entry (n : Node) (k : Kept R.Denot) (change : P.Denot → Kept R.Denot → Kept R.Denot) : Type
          2 where
        pub part : P.Denot
        pub rest : Ptr → Fml
        pub out : ent 𝓤 (sem 𝓛 (block_owns R n.at k))
            (sep 𝓤 (sem 𝓛 (lies_at P full_share (n.at +ₚ off) part)) (sem 𝓛 (rest n.at)))
        pub back : (w : P.Denot) → ent 𝓤 (sep 𝓤 (sem 𝓛 (lies_at P full_share (n.at +ₚ off) w))
            (sem 𝓛 (rest n.at)))
            (sem 𝓛 (block_owns R n.at (change w k)))

      module _ {change : P.Denot → Kept R.Denot → Kept R.Denot} (a : Arena R.Denot) {n : Node}
          {k : Kept R.Denot} (h : Entry n k change) (rb ro b o : ℕ) (vs : List Val) where
        -- everything but the part
        abbrev Rest : Fml
        Rest =
            fsep (h.rest n.at)
            (fsep (blocks_own R (remove_entry (same_node n) a.blocks))
            (fsep ((Mark R).own_val (tt, tt) vs) (cell_at full_share (arena_row R).mir vs rb ro)))

        comes_back : lookup (same_node n) a.blocks ≡ Some k → n.at ≡ block_ptr b o → (w : P.Denot)
            → ent 𝓤 (sep 𝓤 (sem 𝓛 ((mem P).own_at w b (o + off))) (sem 𝓛 Rest))
            (sem 𝓛 ((mem (arena_row R)).own_at (altered a n (change w)) rb ro))
        unfolding part_of
        comes_back is_k e w =
            let new = altered a n (change w) in
            qed 𝓛 (‵ (lies_at P full_share (block_ptr b o +ₚ off) w) ∷ ‵ Rest ∷ []) ∵
            rewrite ! 0 (λ (p : Ptr). ‵ (lies_at P full_share (p +ₚ off) w)) (sym e) refl $
            move ! (1 ∷ []) $ fsplit3 ! $ move ! (3 ∷ 0 ∷ []) $
            use2 𝓛 (‵ (block_owns R n.at (change w k))) (h.back w) $ move ! (0 ∷ 1 ∷ []) $
            use2 𝓛 (‵ (blocks_own R (alter (same_node n) (change w) a.blocks)))
            (blocks_glue R 𝓛 n a.blocks k (change w) is_k) $
            move ! (1 ∷ []) $ fsplit ! $ move ! (0 ∷ 2 ∷ []) $ fjoin ! $ move ! (1 ∷ 0 ∷ []) $ fjoin ! $
            fpack ! (List Val) (λ us. fsep (cell_at full_share (arena_row R).mir us rb ro)
            ((arena_row R).own_val new us)) vs $ done !

      pub record Lends : Type 2 where
        pub change : P.Denot → Kept R.Denot → Kept R.Denot
        pub Asked : Arena R.Denot → Node → Type 0
        pub asks : (z : Z')
            → ent 𝓤 ((c z.0.0 z.0.3).requires z.1)
            (sep 𝓤 (fact 𝓤 (z.0.0.1.0 ⊑ T.lives)) (fact 𝓤 (Asked z.0.3.0.now z.0.3.1.0)))
        pub block : (a : Arena R.Denot) (n : Node) → Asked a n
            → (k : Kept R.Denot) × (lookup (same_node n) a.blocks ≡ Some k)
        pub held : (a : Arena R.Denot) (n : Node) (asked : Asked a n) → Entry n (block a n asked).0 change
        pub says : (z : Z') (asked : Asked z.0.3.0.now z.0.3.1.0)
            (r : MutBor P.Denot) → r.now ≡ (held _ _ asked).part
            → ent 𝓤 (sem 𝓛 (follows (arena_row R) P z.0.3.0.ghost_name r.ghost_name
            (λ w. altered z.0.3.0.now z.0.3.1.0 (change w))))
            ((c z.0.0 z.0.3).ensures z.1 r (at_exit S' z.0.0 z.0.3 (tt, (tt, tt))))

      pub lent : {τ : Ty} → field_of (layout (blocks.the_row R)) nth ≡ just (τ, off) → Lends
          → Meets 𝓛 S'.signature (let 𝓣 = tables 𝓤 H 𝓜 𝓡 𝓡.env in 𝓣.C key)
          (closing 𝓛 S' c)
      lent at_k s =
          let Ar : RattleType = arena_row R in
          proved_at 𝓛 S' lent_stays c 𝓜 𝓡 (
            Goes-spent_ref 𝓛 2 (0 ∷ []) tt (plain (λ _. Ar)),
            (Goes-dropped 𝓛 2 (plain (λ _. Nd)) yes (λ κs x f. refl), tt),
          )
          key fn closed (λ z are.
          let κs = z.0.0 in let qs = z.0.1 in
          let Post : Val → SProp 𝓤 = (walk_of 𝓛 S' lent_stays c).post z in
          let Run : List Val → SProp 𝓤 = λ ws. Runs ws Post in
          let a = z.0.3.0.now in let rb = z.0.3.0.ref_ptr.0 in let ro = z.0.3.0.ref_ptr.1 in
          let γ = z.0.3.0.ghost_name in let n = z.0.3.1.0 in
          let toks = ‵ (flft κs.0 qs.0) ⊛ ‵ (flft κs.1.0 qs.1.0) ⊛ ‵ ftrue in
          qed 𝓛 ((toks ⊛ ‵ (owns (types_at S'.signature.params κs) z.0.3 z.0.4)) ∷ raw
          ((c κs z.0.3).requires z.1) ∷ []) ∵
          split ! $ move ! (2 ∷ []) $
          use1 𝓛 (raw (fact 𝓤 (κs.1.0 ⊑ T.lives)) ⊛ raw (fact 𝓤 (s.Asked a n))) (s.asks z) $ split ! $
          drop ! $ heard ! _ (λ asked.
          let k = (s.block a n asked).0 in let is_k = (s.block a n asked).1 in let h = s.held a n asked in
          move ! (1 ∷ []) $ fsplit ! $ fsplit3 ! $ feq_l !
          (λ e0. move ! (2 ∷ []) $ fsplit ! $ word_had no_box [] n.at ! z.0.4.1.0 (λ e1. drop ! $
          -- [obs; the borrow; the tokens]
          args_are ! (λ (ws : List Val × List Val). Run (ws.0 ++ (ws.1 ++ []))) (λ j. (sym e0 j, sym e1 j)) $
          move ! (2 ∷ []) $ split3 ! $ move ! (3 ∷ 4 ∷ 0 ∷ []) $
          begins ! at_k Post rb ro n.at $
          opens ! tt Ar {h = a} rb ro (λ vs. move ! (1 ∷ []) $ fsplit ! $ move ! (1 ∷ []) $
          use1 𝓛 (‵ (block_owns R n.at k) ⊛ ‵ (blocks_own R (remove_entry (same_node n) a.blocks)))
          (blocks_cut R 𝓛 n a.blocks k is_k) $ split ! $
          use1 𝓛 (‵ (lies_at P full_share (n.at +ₚ off) h.part) ⊛ ‵ (h.rest n.at)) h.out $ split ! $
          in_a_block ! n.at (λ p. lies_at P full_share (p +ₚ off) h.part) (id⊢ 𝓤 (never 𝓤)) (λ b o e.
          -- [the part; the rest of its block; the other blocks; the mark; its cell; the open borrow; obs;
          -- auth; the other tokens]
          let at = o + off in let new = λ (w : P.Denot). altered a n (s.change w) in
          let way = comes_back a h rb ro b o vs is_k e in let Left = sem 𝓛 (Rest a h rb ro b o vs) in
          move ! (3 ∷ 4 ∷ []) $ fjoin ! $ move ! (3 ∷ 0 ∷ []) $ fjoin ! $ move ! (2 ∷ 0 ∷ []) $ fjoin ! $
          move ! (2 ∷ 3 ∷ 4 ∷ 1 ∷ 0 ∷ []) $ group ! 5 $
          use1 𝓛 (later (some (λ (δ : GName). raw (Part 𝓛 Ar P new
          (named 0) κs.0 qs.0 rb ro b at γ Left way h.part δ))))
          (lends_Part 𝓛 Ar P new (named 0) κs.0 qs.0 rb ro b at γ Left way (Ar.coded.code a)
          (Ar.coded.code a) h.part) $
          await ! tt $ pick ! (λ δ.
          let out : MutBor P.Denot = record { ref_ptr = (b, at); ghost_name = δ; now = h.part } in
          use1 𝓛 (‵ ((MutRef (named 0) κs.0 P).own_val out (vptr b at ∷ [])) ⊛ ‵ (flft κs.0 qs.0) ⊛
          ‵ (follows Ar P γ δ new))
          (id⊢ 𝓤 _) $ split3 ! $
          -- [the value's borrow; its token; what the arena follows; the other tokens]
          now ! $ suffices ! (Post (vptr b at)) (addressed Post n.at b o e) $ move ! (2 ∷ []) $
          use1 𝓛 (raw ((c κs z.0.3).ensures z.1 out (at_exit S' κs z.0.3 (tt, (tt, tt)))))
          (s.says z asked out refl) $
          move ! (2 ∷ 3 ∷ 4 ∷ []) $ group ! 3 $
          nothing ! $ nothing ! $ fjoin ! $ nothing ! $ fjoin ! $ keep ! (1 ∷ 0 ∷ 3 ∷ 2 ∷ []) $ by !
          (leaves 𝓛 S' lent_stays c z (vptr b at) out (tt, (tt, tt)) (tt, (tt, tt))))))))))
