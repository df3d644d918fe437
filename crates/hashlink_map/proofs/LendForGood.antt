-- A raw entry is taken apart, and a call at its node lends for as long as the map is borrowed. Assumes
-- `Logic`.
use Rattle.hashlink_map.proofs.Names
use Names.{◌≡◌, ℕ, List, [], ◌∷◌, ◌++◌, refl, sym, subst, ◌∙◌, Ura, SProp, ent, id⊢, via, emp, ftrue, fsep}
use Names.{Fn, Ty, Sym, Callee, Kind, named, erased, mut, ty_ptr, ty_ref, ty_struct, tcons, tnil, local}
use Names.{value_local, place, deref, field, seq, assign, call, return, addr_of, copy, rv_opd, Val, of_list}
use Names.{facts, ty_int, u64, vint, w64}
use Names.{vptr, vstruct, Model, WpFn, Closed, Logic, sem, whole, sub, stop, fld, of_opd, addr, and_then}
use Names.{no_more, returns, enter, alloc_all, pass_all, free_all, look_at, get, get_in, through, sets}
use Names.{lands_as, ◌⊑◌, fact, Lfts, Outlives, Running, tables, no, yes, Is, shows, layout, param}
use Names.{RattleType, owns, MutRef, mut_vals, mut_Tells, types_at, plain, mut_ref_to, named_lft, nothing}
use Names.{peeks, as_fields, calls_at, Ended, Clauses, closing, lasts, Lasts, alive, Meets, triple_of, framed}
use Names.{Stays, stay_dropped, walk_of, proved_at, leaves, Good, word, word_ty, word-Good, Node, Holds}
use Rattle.hashlink_core.specs.contracts.Node.{the_row as node_row}
use Rattle.hashlink_map.specs.contracts.as_node.NodeAsNode.TheImpl
use Rattle.hashlink_map.specs.contracts.map.LinkedHashMap as map
use Rattle.hashlink_map.specs.contracts.raw_entry.occupied.RawOccupiedEntryMut as entry
use Rattle.hashlink_map.proofs.PairSteps.{word_had, node_made, Asks, adds_fact, ended, clauses}
use types.Kit.{‵, raw, ◌⊛◌, some, later, ◌$◌, ◌∵◌, !, qed, by, move, keep, drop, split, join, fsplit, fjoin}
use types.Kit.{fpick, feq_l, pick, await, rewrite, use0, use1, suffices, done}
use Rattle.hashlink_map.specs.Bounds.{EqGhosts, HashGhosts, HasherGhosts, BuilderGhosts}

-- the parts of the code that no proof here reads
pub record Unread : Type 0 where
  pub lifetimes : ℕ
  pub outlives : List (ℕ × ℕ)
  pub ty_params : List Kind
  pub givens : ℕ
  pub passed : Ty
  pub held : Ty
  pub behind : Ty
  pub entry : Sym
  pub self : Callee
  pub lends : Callee

-- `let RawOccupiedEntryMut { map, node, slot: _ } = self; map.lends(node)`
abbrev pub taking_apart : Unread → Ty → Fn
taking_apart n τ = record {
  lifetimes = n.lifetimes;
  outlives = n.outlives;
  ty_params = n.ty_params;
  givens = n.givens;
  params = 1;
  locals =
      local τ value_local
      ∷ local (ty_struct n.entry (tcons (ty_ref (named 0) mut n.passed)
      (tcons (layout node_row) (tcons (ty_int w64) tnil)))) value_local
      ∷ local (ty_ref erased mut n.held) value_local ∷ local (layout node_row) value_local
      ∷ local (ty_ref erased mut n.held) value_local ∷ [];
  body =
      seq (assign (place 2 []) (rv_opd (copy (place 1 (field 0 ∷ [])))))
      (seq (assign (place 3 []) (rv_opd (copy (place 1 (field 1 ∷ [])))))
      (seq (assign (place 4 []) (addr_of (place 2 (deref n.behind ∷ []))))
      (seq (call n.lends (copy (place 4 []) ∷ copy (place 3 []) ∷ []) (place 0 []))
      return)));
}

module _ (K V S T : RattleType) (p : EqGhosts K.Denot) (h : HashGhosts K.Denot)
    (b : BuilderGhosts S.Denot T.Denot) (w : HasherGhosts T.Denot) where
  abbrev pub Map : RattleType
  Map = map.the_row (param 0 K) (param 1 V) (param 2 S) (param 3 T) p h b w

  abbrev pub Ref : Lfts 5 → RattleType
  Ref κs = MutRef (named 0) κs.0 Map

  abbrev Entry : Lfts 5 → RattleType
  Entry κs =
      entry.the_row (named_lft 5 0 tt κs) (param 0 K) (param 1 V) (param 2 S) node_row (param 3 T) p h b w
      TheImpl.ghosts

module _ {M : Type 1} (𝓤 : Ura M) (𝓛 : Logic 𝓤) (𝓜 : Model 𝓤 𝓛.H) (𝓡 : Running 𝓤 𝓛.H 𝓜)
    (K V S T : RattleType) (p : EqGhosts K.Denot) (h : HashGhosts K.Denot)
    (b : BuilderGhosts S.Denot T.Denot) (w : HasherGhosts T.Denot) (R : Lfts 5 → RattleType) (τ : Ty)
    (good : (κs : Lfts 5) (q : (R κs).Denot) (v : Val) → Is (R κs) q (v ∷ []) → Good τ v)
    (Says : (κs : Lfts 5) → (Ref K V S T p h b w κs).Denot → Node → (R κs).Denot → SProp 𝓤) where
  -- the call at the node, and the function
  abbrev Lender : List (Outlives 5) → Ended
  Lender O =
      ended 5 O (mut_ref_to (0 ∷ []) tt (plain (λ κs. Map K V S T p h b w)) ∷ plain (λ κs. node_row) ∷ [])
      (no, (yes, tt)) R

  abbrev Ending : List (Outlives 5) → Ended
  Ending O = ended 5 O (plain (Entry K V S T p h b w) ∷ []) (no, tt) R

  abbrev asks : Lfts 5 → SProp 𝓤 → SProp 𝓤
  asks κs = Asks 𝓤 (κs.1.0 ⊑ K.lives) (κs.1.1.0 ⊑ V.lives) (κs.1.1.1.0 ⊑ S.lives) (κs.1.1.1.1.0 ⊑ T.lives)

  abbrev lends : (O : List (Outlives 5)) → Clauses 𝓤 (Lender O)
  lends O =
      clauses 𝓤 (Lender O) (λ κs a. asks κs (fact 𝓤 (Holds a.0.now.nodes a.1.0)))
      (λ κs a q. Says κs a.0 a.1.0 q)

  abbrev ends : (O : List (Outlives 5)) → Clauses 𝓤 (Ending O)
  ends O = clauses 𝓤 (Ending O) (λ κs a. asks κs (emp 𝓤)) (λ κs a q. Says κs a.0.map a.0.node q)

  pub lends_for_good : (O : List (Outlives 5)) (n : Unread)
      → Meets 𝓛 (Lender O).signature ((tables 𝓤 𝓛.H 𝓜 𝓡 𝓡.env).C n.lends) (closing 𝓛 (Lender O) (lends O))
      → Closed 𝓤 𝓛.H (tables 𝓤 𝓛.H 𝓜 𝓡 𝓡.env).C (tables 𝓤 𝓛.H 𝓜 𝓡 𝓡.env).Λ n.self (taking_apart n τ)
      → Meets 𝓛 (Ending O).signature ((tables 𝓤 𝓛.H 𝓜 𝓡 𝓡.env).C n.self) (closing 𝓛 (Ending O) (ends O))
  lends_for_good O names met closed =
      let H = 𝓛.H in let 𝓣 = tables 𝓤 H 𝓜 𝓡 𝓡.env in
      let En = Ending O in let fn = taking_apart names τ in let c = ends O in
      let hs : Stays En.signature.params En.kept = (stay_dropped (plain (Entry K V S T p h b w)) no, tt) in
      proved_at 𝓛 En hs c 𝓜 𝓡 (
        (λ κs x w us ok. via 𝓤 (sem 𝓛 (fsep ftrue ftrue)) (qed 𝓛 (‵ ftrue ∷ []) ∵ nothing ! $
            fjoin ! $ done !) (𝓛.laws.⇛_intro (sem 𝓛 (fsep ftrue ftrue)))),
        tt,
      )
      names.self fn closed (λ z are.
      let κs = z.0.0 in let qs = z.0.1 in let a = z.0.3 in let r = a.0.map in let n = a.0.node in
      let vs = mut_vals r in let Held = Ref K V S T p h b w κs in let Out = R κs in
      let Post : Val → SProp 𝓤 = (walk_of 𝓛 En hs c).post z in
      let Run : List Val → SProp 𝓤 = λ ws. WpFn 𝓤 H 𝓣.C 𝓣.Λ fn ws Post in
      let G = triple_of 𝓛 (Lender O).signature (closing 𝓛 (Lender O) (lends O)) in
      let y : G.Ghost = ((κs, qs, z.0.2, (r, (n, tt)), (vs, (word n.at ∷ [], tt))), tt) in
      let toks = raw (alive 𝓛 En.signature κs qs) in
      let slot : Val = vint w64 a.0.slot in
      let held : Val = vstruct (of_list (vs ++ (word n.at ∷ slot ∷ []))) in
      qed 𝓛 ((toks ⊛ ‵ (owns (types_at En.signature.params κs) a z.0.4)) ∷ raw (asks κs (emp 𝓤)) ∷ []) ∵
      split ! $
      move ! (1 ∷ []) $ fsplit ! $ fpick ! (λ vss. fsplit ! $ feq_l ! (λ is_held. fsplit ! $
      peeks ! Held _ (shows 𝓛 Held) r vss.0 (λ is. let is_ref : vss.0 ≡ vs =
      mut_Tells (named 0) κs.0 (Map K V S T p h b w) r vss.0 is in
      rewrite ! 0 (λ (us : List Val). ‵ (Held.own_val r us)) is_ref refl $ move ! (1 ∷ []) $ fsplit ! $
      word_had ! n.at vss.1.0 (λ is_node. fsplit ! $
      facts ! u64 (Is u64) (shows 𝓛 u64) a.0.slot vss.1.1.0 (λ is_slot. drop ! $
      -- [the map's reference; nothing; the tokens; the requires]
      suffices ! (Run (held ∷ [])) (subst (λ (ws : List Val). ent 𝓤 (Run (held ∷ [])) (Run (ws ++ [])))
      (sym (is_held ∙ (λ i. vstruct (of_list (is_ref i ++ (is_node i ++ (is_slot.0 i ++ [])))) ∷ [])))
      (id⊢ 𝓤 _)) $
      enter ! 𝓣.C 𝓣.Λ fn _ Post $
      alloc_all ! (λ l. pass_all ! refl (
        as_fields (ty_ptr ∷ word_ty [] ∷ ty_int w64 ∷ [])
            (vptr r.ref_ptr.0 r.ref_ptr.1 ∷ word n.at ∷ slot ∷ [])
            ((tt, tt), (word-Good [] n.at, ((tt, record { fits = is_slot.1 }), tt))),
        tt,
      ) $
      sets ! (of_opd ! (get_in ! (fld ! refl (stop !)) (sub ! 0 refl (whole !)))) refl (tt, tt) $
      sets ! (of_opd ! (get_in ! (fld ! refl (stop !)) (sub ! 1 refl (whole !)))) refl (word-Good [] n.at) $
      sets ! (addr ! (through ! refl (stop !))) refl (tt, tt) $
      move ! (3 ∷ []) $ use1 𝓛 (raw (asks κs (fact 𝓤 (Holds r.now.nodes n))))
      (adds_fact 𝓤 (κs.1.0 ⊑ K.lives) (κs.1.1.0 ⊑ V.lives) (κs.1.1.1.0 ⊑ S.lives)
      (κs.1.1.1.1.0 ⊑ T.lives) (Holds r.now.nodes n) a.0.stands) $
      -- [the requires; the map's reference; nothing; the tokens]
      use0 𝓛 (‵ (node_row.own_val n (word n.at ∷ []))) (node_made 𝓛 n.at) $ nothing ! $ move ! (1 ∷ 0 ∷ []) $
      fjoin ! $ move ! (2 ∷ 0 ∷ []) $ fjoin ! $
      move ! (3 ∷ 0 ∷ []) $ join ! $ move ! (0 ∷ 1 ∷ []) $ join ! $
      use1 𝓛 (raw (G.pre y)) (id⊢ 𝓤 (G.pre y)) $
      calls_at ! (framed 𝓤 H 𝓜 𝓣) G met y (and_then ! (get ! refl) (and_then ! (get ! refl) (no_more !)))
      (λ v.
      use1 𝓛 (later (some (λ (q : Out.Denot). (toks ⊛ ‵ (Out.own_val q (v ∷ []))) ⊛ some
      (λ (ls : Lasts (Lender O) κs (r, (n, tt))). ‵ (lasts (Lender O) κs (r, (n, tt)) ls)
      ⊛ raw (Says κs r n q))))) (id⊢ 𝓤 (G.post y v)) $
      await ! tt $ pick ! (λ q. split ! $ move ! (1 ∷ []) $ pick ! (λ ls. split ! $ drop ! $ move ! (1 ∷ []) $
      split ! $ move ! (1 ∷ []) $ peeks ! Out (Is Out) (shows 𝓛 Out) q (v ∷ []) (λ is_out.
      -- [the result; the tokens; what the call ensures]
      lands_as ! refl refl (good κs q v is_out) $ returns ! (look_at ! 0 refl) $ free_all ! refl $
      nothing ! $ nothing ! $ fjoin ! $ keep ! (2 ∷ 0 ∷ 1 ∷ 3 ∷ []) $
      by ! (leaves 𝓛 En hs c z v q ((tt, tt), tt) (tt, tt)))))))))))))
