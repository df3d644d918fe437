-- The pair at a place of a borrower is lent if the place is a node's. A step before the loan gives the place.
-- A cursor and a writing walk lend in this way. Assumes `Logic`.
use Rattle.hashlink_map.proofs.Names
use Names.{◌≡◌, ℕ, List, [], ◌∷◌, ◌++◌, refl, sym, ap, subst, ◌∙◌, Ura, Fml, SProp, ent, sep, id⊢, emp, Fn}
use Names.{Ty, Sym, Callee, Kind, named, erased, mut, ty_ptr, ty_ref, ty_struct, tcons, tnil, local}
use Names.{value_local, place, deref, field, seq, assign, call, return, addr_of, copy, rv_opd, Val, of_list}
use Names.{vptr, vstruct, Model, WpFn, Closed, Logic, sem, whole, sub, stop, fld, of_opd, addr, and_then}
use Names.{no_more, returns, enter, alloc_all, pass_all, free_all, look_at, get, get_in, through, sets}
use Names.{lands_as, ◌⊑◌, fact, fact_i, Lfts, Outlives, Running, tables, no, yes, follows_by, Is, shows}
use Names.{layout, Laws, RattleType, NamedLft, MutRef, mut_vals, mut_Tells, Slot, plain, mut_ref_to}
use Names.{named_lft, nothing, peeks, only, heard, as_fields, Tuple, calls_at, Ended, Clauses, closing, lasts}
use Names.{Lasts, alive, on_entry, Meets, triple_of, framed, Stays, stay_dropped, walk_of, Goes-spent_ref}
use Names.{proved_at, leaves, lit<, fres, w8, imm, ty_enum, ttcons, ttnil, variant, switch, arm, no_default}
use Names.{aggregate, int, Wp, after_seq, live, vrt, in_variant, agg, lit, first, switches_on, exec, get_tag}
use Names.{sets_last, env, Typed, owns, shr_vals, types_at, Goes-dropped, after, head, arm_body, Good}
use Names.{Some-of, none_of, Node}
use Rattle.std.proofs.option.Option.TheLaws as option_laws
use Rattle.std.specs.contracts.option.Option as option
use Rattle.hashlink_core.proofs.Node.TheLaws as node_laws
use Rattle.hashlink_core.specs.contracts.Node.{the_row as node_row}
use Rattle.hashlink_map.proofs.{PairRows.{Lent, lent_laws}, PairValues.{valued, some_had, none_had}}
use Rattle.hashlink_map.proofs.PairSteps.{Asks, adds_fact, asks_again, ended, clauses}
use types.Kit.{‵, raw, ◌⊛◌, some, later, ◌$◌, ◌∵◌, !, qed, by, move, keep, drop, split, join, fsplit, fjoin}
use types.Kit.{fpick, feq_l, pick, await, rewrite, use0, use1, at_ret, any_q, post, fsplit3, suffices}
use Rattle.std.specs.Prelude.{None, Some}

abbrev pub At_place : RattleType
At_place = option.the_row node_row

-- the parts of the code that no proof here reads
pub record StepCode : Type 0 where
  pub lifetimes : ℕ
  pub outlives : List (ℕ × ℕ)
  pub ty_params : List Kind
  pub givens : ℕ
  pub passed : Ty
  pub held : Ty
  pub behind : Ty
  pub tuple : Sym
  pub self : Callee
  pub step : Callee
  pub pair_at : Callee

-- `let (borrower, place) = self.step(); borrower.pair_at(place)`
abbrev pub stepping : StepCode → Ty → Fn
stepping n τ = record {
  lifetimes = n.lifetimes;
  outlives = n.outlives;
  ty_params = n.ty_params;
  givens = n.givens;
  params = 1;
  locals =
      local τ value_local ∷ local (ty_ref (named 0) mut n.passed) value_local
      ∷ local (ty_ref erased mut n.held) value_local ∷ local (layout At_place) value_local
      ∷ local (ty_struct n.tuple
      (tcons (ty_ref erased mut n.held) (tcons (layout At_place) tnil))) value_local
      ∷ local (ty_ref erased mut n.held) value_local ∷ local (ty_ref erased mut n.held) value_local ∷ [];
  body =
      seq (assign (place 5 []) (addr_of (place 1 (deref n.behind ∷ []))))
      (seq (call n.step (copy (place 5 []) ∷ []) (place 4 []))
      (seq (assign (place 2 []) (rv_opd (copy (place 4 (field 0 ∷ [])))))
      (seq (assign (place 3 []) (rv_opd (copy (place 4 (field 1 ∷ [])))))
      (seq (assign (place 6 []) (addr_of (place 2 (deref n.behind ∷ []))))
      (seq (call n.pair_at (copy (place 6 []) ∷ copy (place 3 []) ∷ []) (place 0 []))
      return)))));
}

pub record MatchCode : Type 0 where
  pub lifetimes : ℕ
  pub outlives : List (ℕ × ℕ)
  pub ty_params : List Kind
  pub givens : ℕ
  pub passed : Ty
  pub held : Ty
  pub behind : Ty
  pub key : Ty
  pub value : Ty
  pub tuple : Sym
  pub option : Sym
  pub self : Callee
  pub pair_at_node : Callee

abbrev pair_ty : MatchCode → Ty
pair_ty n = ty_struct n.tuple (tcons (ty_ref erased imm n.key) (tcons (ty_ref erased mut n.value) tnil))

-- `match place { Some(node) => Some(self.pair_at_node(node)), None => None }`
abbrev pub matching : MatchCode → Ty → Fn
matching n τ = record {
  lifetimes = n.lifetimes;
  outlives = n.outlives;
  ty_params = n.ty_params;
  givens = n.givens;
  params = 2;
  locals =
      local τ value_local ∷ local (ty_ref (named 0) mut n.passed) value_local
      ∷ local (layout At_place) value_local ∷ local (layout node_row) value_local
      ∷ local (ty_enum n.option (ttcons tnil (ttcons (tcons (pair_ty n) tnil) ttnil))) value_local
      ∷ local (pair_ty n) value_local ∷ local (ty_ref erased mut n.held) value_local ∷ [];
  body =
      seq
      (switch (copy (place 2 (variant 0 ∷ field 0 ∷ [])))
      (arm (1 ∷ [])
      (seq (assign (place 3 []) (rv_opd (copy (place 2 (variant 1 ∷ field 1 ∷ [])))))
      (seq (assign (place 6 []) (addr_of (place 1 (deref n.behind ∷ []))))
      (seq (call n.pair_at_node (copy (place 6 []) ∷ copy (place 3 []) ∷ []) (place 5 []))
      (assign (place 4 []) (aggregate (int w8 1 ∷ copy (place 5 []) ∷ []))))))
      (arm (0 ∷ []) (assign (place 4 []) (aggregate (int w8 0 ∷ []))) no_default)))
      (seq (assign (place 0 []) (rv_opd (copy (place 4 [])))) return);
}

module _ (K V : RattleType) (LK : Laws K) (LV : Laws V) (Row : NamedLft → RattleType) where
  abbrev pub Borrower : Lfts 6 → RattleType
  Borrower κs = Row (named_lft 6 1 tt κs)

  abbrev pub Ref : Lfts 6 → RattleType
  Ref κs = MutRef (named 0) κs.0 (Borrower κs)

  abbrev pub Mid : Lfts 6 → RattleType
  Mid κs = Tuple (Ref κs ∷ At_place ∷ [])

  abbrev pub Out : Lfts 6 → RattleType
  Out κs = option.the_row (Lent K V LK LV κs.0)

  abbrev borrowed : Slot 6
  borrowed = mut_ref_to (0 ∷ []) tt (plain Borrower)

  -- a step, the call that lends at a place, and the two in sequence
  abbrev taking : List (Outlives 6) → Ended
  taking O = ended 6 O (borrowed ∷ []) (no, tt) Mid

  abbrev pub lending : List (Outlives 6) → Ended
  lending O = ended 6 O (borrowed ∷ plain (λ κs. At_place) ∷ []) (no, (yes, tt)) Out

  abbrev giving : List (Outlives 6) → Ended
  giving O = ended 6 O (borrowed ∷ []) (no, tt) Out

  abbrev pub Pair_at : Lfts 6 → RattleType
  Pair_at κs = Lent K V LK LV κs.0

  -- the call that lends at a node
  abbrev at_node : List (Outlives 6) → Ended
  at_node O =
      ended 6 O (mut_ref_to (0 ∷ []) tt (plain (Borrower)) ∷ plain (λ κs. node_row) ∷ [])
      (no, (yes, tt)) Pair_at

  -- the clauses: at a node, and at a place
  pub record LendingAt {M : Type 1} {𝓤 : Ura M} (𝓛 : Logic 𝓤) : Type 1 where
    pub NodeTies : (κs : Lfts 6) → (Ref κs).Denot → Node → (Pair_at κs).Denot → Fml
    pub NodePair : (κs : Lfts 6) → (Ref κs).Denot → Node → (Pair_at κs).Denot → Type 0
    pub Stands : (κs : Lfts 6) → (Mid κs).Denot → Type 0
    pub Ties : (κs : Lfts 6) → (Mid κs).Denot → (Out κs).Denot → Fml
    pub Pair : (κs : Lfts 6) → (Mid κs).Denot → (Out κs).Denot → Type 0
    pub ties_some : (κs : Lfts 6) (r : (Ref κs).Denot) (n : Node) (q : (Pair_at κs).Denot)
        → ent 𝓤 (sem 𝓛 (NodeTies κs r n q)) (sem 𝓛 (Ties κs (r, Some n) (Some q)))
    pub pair_some : (κs : Lfts 6) (r : (Ref κs).Denot) (n : Node) (q : (Pair_at κs).Denot)
        → NodePair κs r n q → Pair κs (r, Some n) (Some q)
    pub ties_none : (κs : Lfts 6) (r : (Ref κs).Denot)
        → ent 𝓤 (sem 𝓛 (fres r.ghost_name ((Borrower κs).coded.code r.now)))
        (sem 𝓛 (Ties κs (r, None) None))
    pub pair_none : (κs : Lfts 6) (r : (Ref κs).Denot) → Pair κs (r, None) None

  -- the clauses of the step before it, and of the two in sequence
  pub record Lending {M : Type 1} {𝓤 : Ura M} (𝓛 : Logic 𝓤) (at : LendingAt 𝓛) : Type 1 where
    pub Takes : (κs : Lfts 6) → (Ref κs).Denot → (Mid κs).Denot → Type 0
    pub Lends : (κs : Lfts 6) → (Ref κs).Denot → (Out κs).Denot → Fml
    pub Gives : (κs : Lfts 6) → (Ref κs).Denot → (Out κs).Denot → Type 0
    pub stands : (κs : Lfts 6) (r : (Ref κs).Denot) (q : (Mid κs).Denot) → Takes κs r q → at.Stands κs q
    pub ties : (κs : Lfts 6) (r : (Ref κs).Denot) (q : (Mid κs).Denot) (o : (Out κs).Denot) → Takes κs r q
        → at.Pair κs q o → ent 𝓤 (sem 𝓛 (at.Ties κs q o)) (sem 𝓛 (Lends κs r o))
    pub gives : (κs : Lfts 6) (r : (Ref κs).Denot) (q : (Mid κs).Denot) (o : (Out κs).Denot) → Takes κs r q
        → at.Pair κs q o → Gives κs r o

module _ {M : Type 1} (𝓤 : Ura M) (𝓛 : Logic 𝓤) (𝓜 : Model 𝓤 𝓛.H) (𝓡 : Running 𝓤 𝓛.H 𝓜)
    (K V S T : RattleType) (LK : Laws K) (LV : Laws V) (Row : NamedLft → RattleType)
    (s : LendingAt K V LK LV Row 𝓛) where
  abbrev Node_lender : List (Outlives 6) → Ended
  Node_lender = at_node K V LK LV Row

  abbrev Lender : List (Outlives 6) → Ended
  Lender = lending K V LK LV Row

  abbrev asks : Lfts 6 → SProp 𝓤 → SProp 𝓤
  asks κs =
      Asks 𝓤 (κs.1.1.0 ⊑ K.lives) (κs.1.1.1.0 ⊑ V.lives) (κs.1.1.1.1.0 ⊑ S.lives) (κs.1.1.1.1.1.0 ⊑ T.lives)

  abbrev lends_at_node : (O : List (Outlives 6)) → Clauses 𝓤 (Node_lender O)
  lends_at_node O =
      clauses 𝓤 (Node_lender O) (λ κs a. asks κs (fact 𝓤 (s.Stands κs (a.0, Some a.1.0))))
      (λ κs a q. sep 𝓤 (sem 𝓛 (s.NodeTies κs a.0 a.1.0 q)) (fact 𝓤 (s.NodePair κs a.0 a.1.0 q)))

  abbrev lends : (O : List (Outlives 6)) → Clauses 𝓤 (Lender O)
  lends O =
      clauses 𝓤 (Lender O) (λ κs a. asks κs (fact 𝓤 (s.Stands κs (a.0, a.1.0))))
      (λ κs a o. sep 𝓤 (sem 𝓛 (s.Ties κs (a.0, a.1.0) o)) (fact 𝓤 (s.Pair κs (a.0, a.1.0) o)))

  pub lends_at_place : (O : List (Outlives 6)) (n : MatchCode)
      → Meets 𝓛 (Node_lender O).signature ((tables 𝓤 𝓛.H 𝓜 𝓡 𝓡.env).C n.pair_at_node)
      (closing 𝓛 (Node_lender O) (lends_at_node O))
      → Closed 𝓤 𝓛.H (tables 𝓤 𝓛.H 𝓜 𝓡 𝓡.env).C (tables 𝓤 𝓛.H 𝓜 𝓡 𝓡.env).Λ n.self
      (matching n (layout (option.the_row (Lent K V LK LV []))))
      → Meets 𝓛 (Lender O).signature ((tables 𝓤 𝓛.H 𝓜 𝓡 𝓡.env).C n.self) (closing 𝓛 (Lender O) (lends O))
  lends_at_place O names met closed =
      let H = 𝓛.H in let 𝓣 = tables 𝓤 H 𝓜 𝓡 𝓡.env in
      let En = Lender O in let fn = matching names (layout (option.the_row (Lent K V LK LV []))) in
      let self = plain (Borrower K V LK LV Row) in let place_slot = plain (λ (κs : Lfts 6). At_place) in
      let hs : Stays En.signature.params En.kept
      = (stay_dropped (mut_ref_to (0 ∷ []) tt self) no, (stay_dropped place_slot yes, tt)) in
      let c = lends O in
      proved_at 𝓛 En hs c 𝓜 𝓡
      (Goes-spent_ref 𝓛 6 (0 ∷ []) tt self, (Goes-dropped 𝓛 6 place_slot yes (λ κs x f. refl), tt))
      names.self fn closed (λ z are.
      let κs = z.0.0 in let qs = z.0.1 in let r = z.0.3.0 in
      let CR = Borrower K V LK LV Row κs in let Tup = Pair_at K V LK LV Row κs in
      let W = walk_of 𝓛 En hs c in
      let toks = raw (alive 𝓛 En.signature κs qs) in
      let is_ref : z.0.4.0 ≡ mut_vals r = mut_Tells (named 0) κs.0 CR r z.0.4.0 are.0 in
      let At : At_place.Denot → List Val → List Val
      → W.Ghost = λ x us vs. ((κs, qs, z.0.2, (r, (x, tt)), (us, (vs, tt))), tt) in
      let Goes : At_place.Denot → Type 1 = λ x. (vs : List Val) → Is At_place x vs
      → ent 𝓤 (W.pre (At x (mut_vals r) vs))
      (WpFn 𝓤 H 𝓣.C 𝓣.Λ fn (W.args (At x (mut_vals r) vs)) (W.post (At x (mut_vals r) vs))) in
      let good : (x : At_place.Denot) (v : Val) (vs : List Val) → Is At_place x vs → vs ≡ v ∷ []
      → Good (layout At_place) v
      = λ x v vs is e. (subst (Typed (layout At_place ∷ [])) e
      (((option_laws.the_row_laws node_row node_laws.the_row_laws).lawful 𝓛).typed x vs is)).0 in
      let Asks : At_place.Denot → SProp 𝓤 = λ x. asks κs (fact 𝓤 (s.Stands κs (r, x))) in
      let lent : (n : Node) → Goes (Some n) = λ n vs is.
      qed 𝓛 ((toks ⊛ ‵ (owns (types_at En.signature.params κs) (r, (Some n, tt)) (mut_vals r, (vs, tt))))
      ∷ raw
      (Asks (Some n)) ∷ []) ∵ split ! $
      move ! (1 ∷ []) $ fsplit ! $ move ! (1 ∷ []) $ fsplit ! $
      some_had ! node_row n vs (λ ws is_live. valued ! node_row node_laws.the_row_laws n ws (λ v is_v fits.
      let val : Val = live 1 (of_list (v ∷ [])) in
      let is_val : vs ≡ val ∷ [] = is_live ∙ ap (λ us. live 1 (of_list (us ++ [])) ∷ []) is_v in
      let Post : Val → SProp 𝓤 = W.post (At (Some n) (mut_vals r) vs) in
      let Run : List Val → SProp 𝓤 = λ us. WpFn 𝓤 H 𝓣.C 𝓣.Λ fn (mut_vals r ++ (us ++ [])) Post in
      suffices ! (Run (val ∷ [])) (subst (λ (us : List Val). ent 𝓤 (Run (val ∷ [])) (Run us))
      (sym is_val) (id⊢ 𝓤 _)) $
      -- [the node; nothing; self; the tokens; the requires]
      enter ! 𝓣.C 𝓣.Λ fn _ Post $ alloc_all !
      (λ l. pass_all ! refl ((tt, tt), (good (Some n) val vs is is_val, tt)) $
      let Ev = env fn.locals l in
      first ! $ switches_on ! (get_tag ! (vrt ! refl (fld ! refl (stop !))) (whole !)) $
      exec ! 𝓣.C 𝓣.Λ Ev (arm_body 0 (head fn.body))
      (any_q (after_seq 𝓤 H (Wp 𝓤 H 𝓣.C 𝓣.Λ Ev (after 1 fn.body) (post 𝓤 H (at_ret Ev Post)))
      (post 𝓤 H (at_ret Ev Post)))) $
      sets ! (of_opd ! (get_in ! (vrt ! refl (fld ! refl (stop !))) (in_variant ! 1 0 refl refl (whole !))))
      refl fits $
      sets ! (addr ! (through ! refl (stop !))) refl (tt, tt) $
      fjoin ! $ move ! (1 ∷ 0 ∷ []) $ fjoin ! $ move ! (1 ∷ 0 ∷ []) $ join ! $ join ! $
      let Y = triple_of 𝓛 (Node_lender O).signature (closing 𝓛 (Node_lender O) (lends_at_node O)) in
      let y : Y.Ghost = ((κs, qs, z.0.2, (r, (n, tt)), (mut_vals r, (v ∷ [], tt))), tt) in
      use1 𝓛 (raw (Y.pre y)) (id⊢ 𝓤 (Y.pre y)) $
      calls_at ! (framed 𝓤 H 𝓜 𝓣) Y met y
      (and_then ! (get ! refl) (and_then ! (get ! refl) (no_more !))) (λ v'.
      use1 𝓛 (later (some (λ (q : Tup.Denot). (toks ⊛ ‵ (Tup.own_val q (v' ∷ []))) ⊛ some
      (λ (ls : Lasts (Node_lender O) κs (r, (n, tt))). ‵ (lasts (Node_lender O) κs (r, (n, tt)) ls) ⊛
      (‵ (s.NodeTies κs r n q) ⊛ raw (fact 𝓤 (s.NodePair κs r n q))))))) (id⊢ 𝓤 (Y.post y v')) $
      await ! tt $ pick ! (λ q. split ! $ move ! (1 ∷ []) $
      pick ! (λ ls. split ! $ drop ! $ split ! $ use1 𝓛 (‵ (s.Ties κs (r, Some n) (Some q)))
      (s.ties_some κs r n q) $
      move ! (1 ∷ []) $ heard ! (s.NodePair κs r n q) (λ has.
      -- [the tie; the tokens and the result]
      move ! (1 ∷ []) $ split ! $ move ! (1 ∷ []) $
      peeks ! Tup _ (shows 𝓛 Tup) q (v' ∷ []) (λ are_two.
      let pair : Val = vstruct (of_list (shr_vals q.0 ++ (mut_vals q.1 ++ []))) in
      let is_pair : v' ≡ pair = ap only are_two.1.0
      ∙ (λ i. vstruct (of_list (are_two.1.1.0.0 i ++ (are_two.1.1.1.0.0 i ++ [])))) in
      rewrite ! 0 (λ (u : Val). ‵ (Tup.own_val q (u ∷ []))) is_pair refl $
      use1 𝓛 (‵ ((option.the_row Tup).own_val (Some q) (live 1 (of_list (pair ∷ [])) ∷ [])))
      (Some-of 𝓛 Tup q pair) $
      -- [the result; the tokens; the tie]
      lands_as ! is_pair refl (tt, (tt, (tt, tt))) $
      sets_last ! (agg ! (and_then ! (lit ! tt) (and_then ! (get ! refl) (no_more !)))) refl
      (tt, (record { fits = lit< tt }, ((tt, (tt, tt)), tt))) $
      exec ! 𝓣.C 𝓣.Λ Ev (after 1 fn.body) (at_ret Ev Post) $
      sets ! (of_opd ! (get ! refl)) refl (tt, (record { fits = lit< tt }, ((tt, (tt, tt)), tt))) $
      returns ! (look_at ! 0 refl) $ free_all ! refl $
      use0 𝓛 (raw (fact 𝓤 (s.Pair κs (r, Some n) (Some q))))
      (fact_i 𝓤 (s.Pair κs (r, Some n) (Some q)) (emp 𝓤) (s.pair_some κs r n q has)) $ move ! (3 ∷ 0 ∷ []) $
      join ! $
      nothing ! $ nothing ! $ fjoin ! $ nothing ! $ fjoin ! $ keep ! (3 ∷ 0 ∷ 2 ∷ 1 ∷ []) $
      by ! (leaves 𝓛 En hs c (At (Some n) (mut_vals r) vs) (live 1 (of_list (pair ∷ [])))
      (Some q) (tt, (tt, tt))
      (tt, (tt, tt))))))))))) in
      let guard : Goes None = λ vs is.
      qed 𝓛 ((toks ⊛ ‵ (owns (types_at En.signature.params κs) (r, (None, tt)) (mut_vals r, (vs, tt)))) ∷ raw
      (Asks None) ∷ []) ∵ split ! $
      move ! (1 ∷ []) $ fsplit ! $ move ! (1 ∷ []) $ fsplit ! $ none_had ! node_row vs (λ is_val.
      let val : Val = live 0 (of_list []) in
      let Post : Val → SProp 𝓤 = W.post (At None (mut_vals r) vs) in
      let Run : List Val → SProp 𝓤 = λ us. WpFn 𝓤 H 𝓣.C 𝓣.Λ fn (mut_vals r ++ (us ++ [])) Post in
      suffices ! (Run (val ∷ [])) (subst (λ (us : List Val). ent 𝓤 (Run (val ∷ [])) (Run us))
      (sym is_val) (id⊢ 𝓤 _)) $
      -- [nothing; self; the tokens; the requires]
      drop ! $ fsplit3 ! $ drop ! $
      use1 𝓛 (‵ (fres r.ghost_name (CR.coded.code r.now)))
      (𝓛.names.obs-res r.ghost_name (CR.coded.code r.now)) $
      -- [its last value; its borrow; the tokens; the requires]
      enter ! 𝓣.C 𝓣.Λ fn _ Post $ alloc_all !
      (λ l. pass_all ! refl ((tt, tt), (good None val vs is is_val, tt)) $
      let Ev = env fn.locals l in
      first ! $ switches_on ! (get_tag ! (vrt ! refl (fld ! refl (stop !))) (whole !)) $
      exec ! 𝓣.C 𝓣.Λ Ev (arm_body 1 (head fn.body))
      (any_q (after_seq 𝓤 H (Wp 𝓤 H 𝓣.C 𝓣.Λ Ev (after 1 fn.body) (post 𝓤 H (at_ret Ev Post)))
      (post 𝓤 H (at_ret Ev Post)))) $
      sets_last ! (agg ! (and_then ! (lit ! tt) (no_more !))) refl (tt, (record { fits = lit< tt }, tt)) $
      exec ! 𝓣.C 𝓣.Λ Ev (after 1 fn.body) (at_ret Ev Post) $
      sets ! (of_opd ! (get ! refl)) refl (tt, (record { fits = lit< tt }, tt)) $
      returns ! (look_at ! 0 refl) $ free_all ! refl $
      use1 𝓛 (‵ (s.Ties κs (r, None) None)) (s.ties_none κs r) $
      use0 𝓛 (raw (fact 𝓤 (s.Pair κs (r, None) None)))
      (fact_i 𝓤 (s.Pair κs (r, None) None) (emp 𝓤) (s.pair_none κs r)) $
      move ! (1 ∷ 0 ∷ []) $ join ! $
      use0 𝓛 (‵ ((option.the_row Tup).own_val None (val ∷ []))) (none_of 𝓛 Tup) $
      nothing ! $ nothing ! $ fjoin ! $ nothing ! $ fjoin ! $ keep ! (4 ∷ 0 ∷ 1 ∷ 2 ∷ []) $
      by ! (leaves 𝓛 En hs c (At None (mut_vals r) vs) val None (tt, (tt, tt)) (tt, (tt, tt))))) in
      subst (λ (us : List Val). ent 𝓤 (W.pre (At z.0.3.1.0 us z.0.4.1.0))
      (WpFn 𝓤 H 𝓣.C 𝓣.Λ fn (W.args (At z.0.3.1.0 us z.0.4.1.0)) (W.post (At z.0.3.1.0 us z.0.4.1.0))))
      (sym is_ref)
      ((elim z.0.3.1.0 as Goes [
        | Some n ↦ lent n
        | None ↦ guard
      ]) z.0.4.1.0 are.1.0))

  module _ (t : Lending K V LK LV Row 𝓛 s) where
    abbrev Taking : List (Outlives 6) → Ended
    Taking = taking K V LK LV Row

    abbrev Giving : List (Outlives 6) → Ended
    Giving = giving K V LK LV Row

    abbrev takes : (O : List (Outlives 6)) → Clauses 𝓤 (Taking O)
    takes O = clauses 𝓤 (Taking O) (λ κs a. asks κs (emp 𝓤)) (λ κs a q. fact 𝓤 (t.Takes κs a.0 q))

    abbrev gives : (O : List (Outlives 6)) → Clauses 𝓤 (Giving O)
    gives O =
        clauses 𝓤 (Giving O) (λ κs a. asks κs (emp 𝓤))
        (λ κs a o. sep 𝓤 (sem 𝓛 (t.Lends κs a.0 o)) (fact 𝓤 (t.Gives κs a.0 o)))

    pub steps_and_lends : (O : List (Outlives 6)) (n : StepCode)
        → Meets 𝓛 (Taking O).signature ((tables 𝓤 𝓛.H 𝓜 𝓡 𝓡.env).C n.step) (closing 𝓛 (Taking O) (takes O))
        → Meets 𝓛 (Lender O).signature ((tables 𝓤 𝓛.H 𝓜 𝓡 𝓡.env).C n.pair_at) (closing 𝓛 (Lender O) (lends O))
        → Closed 𝓤 𝓛.H (tables 𝓤 𝓛.H 𝓜 𝓡 𝓡.env).C (tables 𝓤 𝓛.H 𝓜 𝓡 𝓡.env).Λ n.self
        (stepping n (layout (option.the_row (Lent K V LK LV []))))
        → Meets 𝓛 (Giving O).signature ((tables 𝓤 𝓛.H 𝓜 𝓡 𝓡.env).C n.self) (closing 𝓛 (Giving O) (gives O))
    unfolding follows_by
    steps_and_lends O n met₁ met₂ closed =
        let H = 𝓛.H in let 𝓣 = tables 𝓤 H 𝓜 𝓡 𝓡.env in
        let En = Giving O in let fn = stepping n (layout (option.the_row (Lent K V LK LV []))) in
        let hs : Stays En.signature.params En.kept =
        (stay_dropped (mut_ref_to (0 ∷ []) tt (plain (Borrower K V LK LV Row))) no, tt) in
        proved_at 𝓛 En hs (gives O) 𝓜 𝓡
        (Goes-spent_ref 𝓛 6 (0 ∷ []) tt (plain (Borrower K V LK LV Row)), tt) n.self fn closed (λ z are.
        let κs = z.0.0 in let qs = z.0.1 in let r = z.0.3.0 in
        let Held = Borrower K V LK LV Row κs in let Self = Ref K V LK LV Row κs in
        let Middle = Mid K V LK LV Row κs in let Lent_out = Out K V LK LV Row κs in
        let W = walk_of 𝓛 En hs (gives O) in
        let is_ref : z.0.4.0 ≡ mut_vals r = mut_Tells (named 0) κs.0 Held r z.0.4.0 are.0 in
        let At : List Val → W.Ghost = λ us. ((κs, qs, z.0.2, (r, tt), (us, tt)), tt) in
        let vs = mut_vals r in
        let Post : Val → SProp 𝓤 = W.post (At vs) in
        let Y = triple_of 𝓛 (Taking O).signature (closing 𝓛 (Taking O) (takes O)) in
        let y : Y.Ghost = ((κs, qs, z.0.2, (r, tt), (vs, tt)), tt) in
        subst (λ (us : List Val). ent 𝓤 (W.pre (At us))
        (WpFn 𝓤 H 𝓣.C 𝓣.Λ fn (W.args (At us)) (W.post (At us)))) (sym is_ref)
        (qed 𝓛 (raw (on_entry 𝓛 En.signature κs qs (r, tt) (vs, tt)) ∷ raw (asks κs (emp 𝓤)) ∷ []) ∵
        move ! (1 ∷ []) $
        use1 𝓛 (raw (asks κs (emp 𝓤)) ⊛ raw (asks κs (emp 𝓤)))
        (asks_again 𝓤 (κs.1.1.0 ⊑ K.lives) (κs.1.1.1.0 ⊑ V.lives) (κs.1.1.1.1.0 ⊑ S.lives)
        (κs.1.1.1.1.1.0 ⊑ T.lives) 𝓛 (emp 𝓤)) $ split ! $
        move ! (2 ∷ 0 ∷ []) $ join ! $ use1 𝓛 (raw (Y.pre y)) (id⊢ 𝓤 (Y.pre y)) $
        enter ! 𝓣.C 𝓣.Λ fn vs Post $ alloc_all ! (λ l. pass_all ! refl ((tt, tt), tt) $
        sets ! (addr ! (through ! refl (stop !))) refl (tt, tt) $
        calls_at ! (framed 𝓤 H 𝓜 𝓣) Y met₁ y (and_then ! (get ! refl) (no_more !)) (λ v.
        use1 𝓛 (later (some (λ (q : Middle.Denot). (raw (alive 𝓛 En.signature κs qs)
        ⊛ ‵ (Middle.own_val q (v ∷ []))) ⊛ some (λ (ls : Lasts (Taking O) κs (r, tt)).
        ‵ (lasts (Taking O) κs (r, tt) ls) ⊛ raw (fact 𝓤 (t.Takes κs r q)))))) (id⊢ 𝓤 (Y.post y v)) $
        await ! tt $ pick ! (λ q. split ! $ move ! (1 ∷ []) $
        pick ! (λ ls. split ! $ drop ! $ heard ! (t.Takes κs r q) (λ taken.
        split ! $ move ! (1 ∷ []) $ fpick ! (λ vss. fsplit ! $ feq_l ! (λ is_mid. fsplit ! $
        peeks ! Self _ (shows 𝓛 Self) q.0 vss.0
        (λ is. let e0 : vss.0 ≡ mut_vals q.0 = mut_Tells (named 0) κs.0 Held q.0 vss.0 is in
        rewrite ! 0 (λ (us : List Val). ‵ (Self.own_val q.0 us)) e0 refl $ move ! (1 ∷ []) $ fsplit ! $
        valued ! At_place (option_laws.the_row_laws node_row node_laws.the_row_laws) q.1 vss.1.0
        (λ u is_u fits.
        let mid : Val = vstruct (of_list (mut_vals q.0 ++ (u ∷ []))) in
        let is : v ≡ mid = ap only is_mid ∙ (λ i. vstruct (of_list (e0 i ++ (is_u i ++ [])))) in
        move ! (1 ∷ []) $ drop ! $
        -- [the place; self; the tokens; what the next call requires]
        lands_as ! is refl
        (as_fields (ty_ptr ∷ layout At_place ∷ []) (vptr q.0.ref_ptr.0 q.0.ref_ptr.1 ∷ u ∷ [])
        ((tt, tt), (fits, tt))) $
        sets ! (of_opd ! (get_in ! (fld ! refl (stop !)) (sub ! 0 refl (whole !)))) refl (tt, tt) $
        sets ! (of_opd ! (get_in ! (fld ! refl (stop !)) (sub ! 1 refl (whole !)))) refl fits $
        sets ! (addr ! (through ! refl (stop !))) refl (tt, tt) $
        move ! (3 ∷ []) $ use1 𝓛 (raw (asks κs (fact 𝓤 (s.Stands κs q))))
        (adds_fact 𝓤 (κs.1.1.0 ⊑ K.lives) (κs.1.1.1.0 ⊑ V.lives) (κs.1.1.1.1.0 ⊑ S.lives)
        (κs.1.1.1.1.1.0 ⊑ T.lives) (s.Stands κs q) (t.stands κs r q taken)) $
        nothing ! $ move ! (2 ∷ 0 ∷ []) $ fjoin ! $ move ! (2 ∷ 0 ∷ []) $ fjoin ! $ move ! (2 ∷ 0 ∷ []) $
        join ! $ join ! $
        let Y₂ = triple_of 𝓛 (Lender O).signature (closing 𝓛 (Lender O) (lends O)) in
        let y₂ : Y₂.Ghost = ((κs, qs, z.0.2, (q.0, (q.1, tt)), (mut_vals q.0, (u ∷ [], tt))), tt) in
        use1 𝓛 (raw (Y₂.pre y₂)) (id⊢ 𝓤 (Y₂.pre y₂)) $
        calls_at ! (framed 𝓤 H 𝓜 𝓣) Y₂ met₂ y₂ (and_then ! (get ! refl) (and_then ! (get ! refl) (no_more !)))
        (λ v₂.
        use1 𝓛 (later (some (λ (o : Lent_out.Denot). (raw (alive 𝓛 En.signature κs qs)
        ⊛ ‵ (Lent_out.own_val o (v₂ ∷ []))) ⊛ some (λ (ls : Lasts (Lender O) κs (q.0, (q.1, tt))).
        ‵ (lasts (Lender O) κs (q.0, (q.1, tt)) ls) ⊛ (‵ (s.Ties κs q o) ⊛ raw (fact 𝓤 (s.Pair κs q o)))))))
        (id⊢ 𝓤 (Y₂.post y₂ v₂)) $
        await ! tt $ pick ! (λ o. split ! $ move ! (1 ∷ []) $
        pick ! (λ ls₂. split ! $ drop ! $ split ! $ move ! (1 ∷ []) $ heard ! (s.Pair κs q o) (λ pair.
        -- [the tie; the tokens and the result]
        use1 𝓛 (‵ (t.Lends κs r o)) (t.ties κs r q o taken pair) $ move ! (1 ∷ []) $ split ! $
        move ! (1 ∷ []) $ peeks ! Lent_out (Is Lent_out) (shows 𝓛 Lent_out) o (v₂ ∷ []) (λ is_out.
        lands_as ! refl refl
        (((option_laws.the_row_laws (Lent K V LK LV κs.0) (lent_laws K V LK LV κs.0)).lawful
        𝓛).typed o (v₂ ∷ []) is_out).0 $
        returns ! (look_at ! 0 refl) $ free_all ! refl $
        -- [the result; the tokens; the tie]
        use0 𝓛 (raw (fact 𝓤 (t.Gives κs r o)))
        (fact_i 𝓤 (t.Gives κs r o) (emp 𝓤) (t.gives κs r q o taken pair)) $
        move ! (3 ∷ 0 ∷ []) $ join ! $
        nothing ! $ nothing ! $ fjoin ! $ keep ! (3 ∷ 0 ∷ 2 ∷ 1 ∷ []) $
        by ! (leaves 𝓛 En hs (gives O) (At vs) v₂ o (tt, tt) (tt, tt))))))))))))))))))
