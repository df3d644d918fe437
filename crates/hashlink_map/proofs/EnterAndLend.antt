-- An entry is made, and then its pair is lent, as by the inserts of raw entries. Assumes `Logic`.
use Rattle.hashlink_map.proofs.Names
use Names.{◌≡◌, ℕ, List, [], ◌∷◌, sym, subst, Ura, Fml, Lft, flft, SProp, ent, sep, ex, emp, id⊢, via, emp∗}
use Names.{comm∗, fst∗, Fn, Callee, Dict, Val, Model, WpFn, Closed, Logic, sem, ◌⊑◌, Lfts, Shares, Outlives}
use Names.{AllOutlive, toks, fact, fact_i, Running, tables, Is, Ises, Are, shows, layout, param, Laws}
use Names.{RattleType, Valss, flat, Slot, types_at, nothing, peeks, heard, Ended, Clauses, closing, lasts}
use Names.{Lasts, Kepts, Args, alive, on_entry, Meets, triple_of, framed, Stays, AllGo, Fit, has_of, walk_of}
use Names.{Good, proved_at, leaves, Bor, MutBor, IfOk, Keyed, with_value_at, LendsPairOf}
use Rattle.std.specs.declared.cmp.Eq as equal
use Rattle.hashlink_map.proofs.PairSteps.{Asks, asks_again, apart_last, joins_last, ended, clauses}
use Rattle.hashlink_map.proofs.PairRows.{Answer, answer_laws, Entered, entered_laws}
use Rattle.hashlink_map.proofs.PairTies.{Rests, Lends, carries, IsLent, IsHandedOn, IsPairAt}
use Rattle.hashlink_map.specs.contracts.raw_entry.occupied.RawOccupiedEntryMut+K+V+S.pair_of as lends
use types.Kit.{Item, Goal, Seq, Soaks, ‵, raw, ◌⊛◌, some, later, ◌$◌, ◌∵◌, !, qed, by, move, drop, split}
use types.Kit.{join, fjoin, pick, await, updating, now, use0, use1, use2, done}
use Rattle.hashlink_map.specs.Bounds.{EqGhosts, HashGhosts, HasherGhosts, BuilderGhosts}

-- a value of R is returned, and Q holds for it
abbrev pub then_with : {M : Type 1} {𝓤 : Ura M} (𝓛 : Logic 𝓤) → RattleType → (Val → SProp 𝓤) → Val → SProp 𝓤
then_with {𝓤 = 𝓤} 𝓛 R Q v = 𝓛.H.⇛ (sep 𝓤 (fact 𝓤 (Good (layout R) v)) (Q v))

module _ {M : Type 1} {𝓤 : Ura M} {𝓛 : Logic 𝓤} {J : Type 0} {Γ : List (Item 𝓤)} {G : Goal 𝓤 𝓛.H} where
  pub returned : J → Soaks G → (R : RattleType) (Q : Val → SProp 𝓤) (v : Val)
      → (Good (layout R) v → Seq J 𝓛 (raw (Q v) ∷ Γ) G)
      → Seq J 𝓛 (raw (then_with 𝓛 R Q v) ∷ Γ) G
  returned t z R Q v k =
      use1 𝓛 (later (raw (fact 𝓤 (Good (layout R) v)) ⊛ raw (Q v))) (id⊢ 𝓤 (then_with 𝓛 R Q v)) $ await t z $
      split t $ heard t (Good (layout R) v) k

-- the lifetimes that the second call takes from the first one's, and the tokens of the others
module _ {M : Type 1} {𝓤 : Ura M} (𝓛 : Logic 𝓤) where
  pub record Passed (n : ℕ) : Type 2 where
    pub five : Lfts n → Lfts 5
    pub shares : Shares n → Shares 5
    pub others : Lfts n → Shares n → SProp 𝓤
    pub apart : (κs : Lfts n) (qs : Shares n)
        → ent 𝓤 (toks 𝓛 n κs qs) (sep 𝓤 (toks 𝓛 5 (five κs) (shares qs)) (others κs qs))
    pub joins : (κs : Lfts n) (qs : Shares n)
        → ent 𝓤 (sep 𝓤 (toks 𝓛 5 (five κs) (shares qs)) (others κs qs)) (toks 𝓛 n κs qs)

  abbrev pub all_five : Passed 5
  all_five = record {
    five = λ κs. κs;
    shares = λ qs. qs;
    others = λ κs qs. emp 𝓤;
    apart = λ κs qs.
        let all = toks 𝓛 5 κs qs in
        via 𝓤 (sep 𝓤 (emp 𝓤) all) (emp∗ 𝓤 all) (comm∗ 𝓤 (emp 𝓤) all);
    joins = λ κs qs. fst∗ 𝓤 (toks 𝓛 5 κs qs) (emp 𝓤);
  }

  abbrev pub but_last : Passed 6
  but_last = record {
    five = λ κs. (κs.0, (κs.1.0, (κs.1.1.0, (κs.1.1.1.0, (κs.1.1.1.1.0, tt)))));
    shares = λ qs. (qs.0, (qs.1.0, (qs.1.1.0, (qs.1.1.1.0, (qs.1.1.1.1.0, tt)))));
    others = λ κs qs. sem 𝓛 (flft κs.1.1.1.1.1.0 qs.1.1.1.1.1.0);
    apart = λ κs qs. apart_last 𝓛 (flft κs.0 qs.0) (flft κs.1.0 qs.1.0) (flft κs.1.1.0 qs.1.1.0)
        (flft κs.1.1.1.0 qs.1.1.1.0) (flft κs.1.1.1.1.0 qs.1.1.1.1.0) (flft κs.1.1.1.1.1.0 qs.1.1.1.1.1.0);
    joins = λ κs qs. joins_last 𝓛 (flft κs.0 qs.0) (flft κs.1.0 qs.1.0) (flft κs.1.1.0 qs.1.1.0)
        (flft κs.1.1.1.0 qs.1.1.1.0) (flft κs.1.1.1.1.0 qs.1.1.1.1.0) (flft κs.1.1.1.1.1.0 qs.1.1.1.1.1.0);
  }

module _ {M : Type 1} (𝓤 : Ura M) (K V S T : RattleType) (LK : Laws K) (LV : Laws V) (LS : Laws S)
    (LT : Laws T) (p : EqGhosts K.Denot) (h : HashGhosts K.Denot) (b : BuilderGhosts S.Denot T.Denot)
    (w : HasherGhosts T.Denot) (κ : Lft) where
  abbrev pub Made_at : RattleType
  Made_at = Entered K V LK LV κ S T LS LT p h b w

  abbrev pub Lent_at : RattleType
  Lent_at = Answer K V LK LV κ

  -- the map; what it is once a value was written, or after a refusal; what else the first call states; and
  -- the two calls in sequence
  pub record Entering : Type 2 where
    pub map : MutBor (Keyed K.Denot V.Denot S.Denot)
    pub Written : Bor K.Denot × MutBor V.Denot → V.Denot → Keyed K.Denot V.Denot S.Denot → Type 0
    pub Refused : K.Denot × V.Denot → Keyed K.Denot V.Denot S.Denot → Type 0
    pub Facts : Made_at.Denot → Type 0
    pub Says : Made_at.Denot → SProp 𝓤
    pub Tells : Lent_at.Denot → SProp 𝓤
    pub hears : (x : Made_at.Denot) → ent 𝓤 (Says x) (fact 𝓤 (Facts x))
    pub writes : (x : Made_at.Denot) → Facts x
        → IfOk x (λ o. (q : Bor K.Denot × MutBor V.Denot) → IsPairAt o q → (u : V.Denot)
        → Written q u (with_value_at o.map.now o.node u))
    pub tells : (x : Made_at.Denot) (r : Lent_at.Denot) → Facts x → IsLent x r → IsHandedOn x r
        → ent 𝓤 (emp 𝓤) (Tells r)

module _ {M : Type 1} (𝓤 : Ura M) (𝓛 : Logic 𝓤) (𝓜 : Model 𝓤 𝓛.H) (𝓡 : Running 𝓤 𝓛.H 𝓜)
    (K V S T : RattleType) (LK : Laws K) (LV : Laws V) (LS : Laws S) (LT : Laws T)
    (e : equal.Ghosts K.Denot) (de : Dict) (p : EqGhosts K.Denot) (dp : Dict) (h : HashGhosts K.Denot)
    (dh : Dict) (b : BuilderGhosts S.Denot T.Denot) (db : Dict) (w : HasherGhosts T.Denot) (dw dd : Dict)
  where
    abbrev pub Made : Lfts 5 → RattleType
    Made κs = Entered K V LK LV κs.0 S T LS LT p h b w

    abbrev pub Lent_out : Lfts 5 → RattleType
    Lent_out κs = Answer K V LK LV κs.0

    abbrev Enters : Lfts 5 → Type 2
    Enters κs = Entering 𝓤 K V S T LK LV LS LT p h b w κs.0

    abbrev asks : Lfts 5 → SProp 𝓤 → SProp 𝓤
    asks κs = Asks 𝓤 (κs.1.0 ⊑ K.lives) (κs.1.1.0 ⊑ V.lives) (κs.1.1.1.0 ⊑ S.lives) (κs.1.1.1.1.0 ⊑ T.lives)

    module _ (κs : Lfts 5) (s : Enters κs) where
      abbrev rests : (Made κs).Denot → Fml
      rests = Rests (param 0 K) (param 1 V) (param 2 S) (param 3 T) p h b w s.map s.Written s.Refused

      abbrev lent : (Lent_out κs).Denot → Fml
      lent = Lends (param 0 K) (param 1 V) (param 2 S) (param 3 T) p h b w s.map s.Written s.Refused

    module _ (κs : Lfts 5) (qs : Shares 5)
        (bounds : AllOutlive 5 (lends.signature K V S T e de p dp h dh b db w dw dd).outlives κs)
        (s : Enters κs) (Alive Others : SProp 𝓤) (apart : ent 𝓤 Alive (sep 𝓤 (toks 𝓛 5 κs qs) Others))
        (joins : ent 𝓤 (sep 𝓤 (toks 𝓛 5 κs qs) Others) Alive) (Post : Val → SProp 𝓤) (second : Callee)
        (met : Meets 𝓛 (lends.signature K V S T e de p dp h dh b db w dw dd)
        ((tables 𝓤 𝓛.H 𝓜 𝓡 𝓡.env).C second)
        (lends.spec K V S T e de p dp h dh b db w dw dd 𝓛 𝓜.mem 𝓡.returns))
        (ends : (v : Val) (r : (Lent_out κs).Denot) → ent 𝓤
        (sep 𝓤 Alive (sep 𝓤 (sem 𝓛 ((Lent_out κs).own_val r (v ∷ [])))
        (sep 𝓤 (sem 𝓛 (lent κs s r)) (s.Tells r)))) (Post v)) where
      abbrev answers : Val → SProp 𝓤
      answers = then_with 𝓛 (Lent_out κs) Post

      answered : (x : (Made κs).Denot) → s.Facts x → (v v₂ : Val)
          → ent 𝓤 (sep 𝓤 ((triple_of 𝓛 (lends.signature K V S T e de p dp h dh b db w dw dd)
          (lends.spec K V S T e de p dp h dh b db w dw dd 𝓛 𝓜.mem 𝓡.returns)).post
          ((κs, qs, bounds, (x, tt), (v ∷ [], tt)), tt) v₂) (sep 𝓤 Others (sem 𝓛 (rests κs s x))))
          (answers v₂)
      answered x facts v v₂ =
          let E = lends.ended K V S T e de p dp h dh b db w dw dd in
          let Y = triple_of 𝓛 (lends.signature K V S T e de p dp h dh b db w dw dd)
          (lends.spec K V S T e de p dp h dh b db w dw dd 𝓛 𝓜.mem 𝓡.returns) in
          let y : Y.Ghost = ((κs, qs, bounds, (x, tt), (v ∷ [], tt)), tt) in
          let R : RattleType = Lent_out κs in
          let Ties = λ (r : R.Denot). LendsPairOf (param 0 K) (param 1 V) (param 2 S) (param 3 T) x r in
          qed 𝓛 (raw (Y.post y v₂) ∷ raw Others ∷ ‵ (rests κs s x) ∷ []) ∵ updating ! $
          use1 𝓛 (later (some (λ (r : R.Denot). (raw (toks 𝓛 5 κs qs) ⊛ ‵ (R.own_val r (v₂ ∷ [])))
          ⊛ some (λ (ls : Lasts E κs (x, tt)). ‵ (lasts E κs (x, tt) ls)
          ⊛ (‵ (Ties r) ⊛ raw (fact 𝓤 (IsLent x r)) ⊛ raw (fact 𝓤 (IsHandedOn x r)))))))
          (id⊢ 𝓤 (Y.post y v₂)) $
          await ! tt $ pick ! (λ r. split ! $ move ! (1 ∷ []) $ pick ! (λ ls. split ! $ drop ! $ split ! $
          move ! (1 ∷ []) $ split ! $ heard ! (IsLent x r) (λ pair. heard ! (IsHandedOn x r) (λ given.
          -- [the tie; the tokens and the result; the other tokens; how the map rests]
          move ! (3 ∷ 0 ∷ []) $ use2 𝓛 (‵ (lent κs s r))
          (carries (param 0 K) (param 1 V) (param 2 S) (param 3 T)
          p h b w s.map s.Written s.Refused 𝓛 x r pair given (s.writes x facts)) $
          move ! (1 ∷ []) $ split ! $ move ! (0 ∷ 3 ∷ []) $ use2 𝓛 (raw Alive) joins $ move ! (1 ∷ []) $
          peeks ! R (Is R) (shows 𝓛 R) r (v₂ ∷ []) (λ is.
          let good : Good (layout R) v₂ =
          (((answer_laws K V LK LV κs.0).lawful 𝓛).typed r (v₂ ∷ []) is).0 in
          use0 𝓛 (raw (s.Tells r)) (s.tells x r facts pair given) $
          -- [what is told; the result; the tokens; the tie]
          move ! (3 ∷ 0 ∷ []) $ join ! $ move ! (1 ∷ 0 ∷ []) $ join ! $ move ! (1 ∷ 0 ∷ []) $ join ! $
          use1 𝓛 (raw (Post v₂)) (ends v₂ r) $
          use0 𝓛 (raw (fact 𝓤 (Good (layout R) v₂))) (fact_i 𝓤 (Good (layout R) v₂) (emp 𝓤) good) $
          join ! $ now ! $ done !)))))

      -- the first call's result is passed to the second call
      goes_on : (L : Type 0) (last : L → Fml) (v : Val)
          → ent 𝓤 (sep 𝓤 (𝓛.H.⇛ (ex 𝓤 (λ (x : (Made κs).Denot). sep 𝓤
          (sep 𝓤 Alive (sem 𝓛 ((Made κs).own_val x (v ∷ []))))
          (ex 𝓤 (λ (ls : L). sep 𝓤 (sem 𝓛 (last ls)) (sep 𝓤 (sem 𝓛 (rests κs s x)) (s.Says x)))))))
          (asks κs (emp 𝓤)))
          (then_with 𝓛 (Made κs) (λ v. (tables 𝓤 𝓛.H 𝓜 𝓡 𝓡.env).C second (v ∷ []) answers) v)
      goes_on L last v =
          let 𝓣 = tables 𝓤 𝓛.H 𝓜 𝓡 𝓡.env in
          let Y = triple_of 𝓛 (lends.signature K V S T e de p dp h dh b db w dw dd)
          (lends.spec K V S T e de p dp h dh b db w dw dd 𝓛 𝓜.mem 𝓡.returns) in
          let R : RattleType = Made κs in
          let Said = λ (x : R.Denot) (ls : L).
          sep 𝓤 (sem 𝓛 (last ls)) (sep 𝓤 (sem 𝓛 (rests κs s x)) (s.Says x)) in
          let Answered = λ (x : R.Denot). sep 𝓤 (sep 𝓤 Alive (sem 𝓛 (R.own_val x (v ∷ []))))
          (ex 𝓤 (Said x)) in
          qed 𝓛 (raw (𝓛.H.⇛ (ex 𝓤 Answered)) ∷ raw (asks κs (emp 𝓤)) ∷ []) ∵ updating ! $
          use1 𝓛 (later (some (λ (x : R.Denot). (raw Alive ⊛ ‵ (R.own_val x (v ∷ [])))
          ⊛ some (λ (ls : L). ‵ (last ls) ⊛ (‵ (rests κs s x) ⊛ raw (s.Says x))))))
          (id⊢ 𝓤 (𝓛.H.⇛ (ex 𝓤 Answered))) $
          await ! tt $ pick ! (λ x. split ! $ move ! (1 ∷ []) $ pick ! (λ ls. split ! $ drop ! $ split ! $
          move ! (1 ∷ []) $ use1 𝓛 (raw (fact 𝓤 (s.Facts x))) (s.hears x) $ heard ! (s.Facts x) (λ facts.
          -- [how the map rests; the tokens and the entry; what the next call requires]
          move ! (1 ∷ []) $ split ! $ use1 𝓛 (raw (toks 𝓛 5 κs qs) ⊛ raw Others) apart $ split ! $
          move ! (2 ∷ []) $ peeks ! R (Is R) (shows 𝓛 R) x (v ∷ []) (λ is.
          let good : Good (layout R) v =
          (((entered_laws K V LK LV κs.0 S T LS LT p h b w).lawful 𝓛).typed x (v ∷ []) is).0 in
          let y : Y.Ghost = ((κs, qs, bounds, (x, tt), (v ∷ [], tt)), tt) in
          nothing ! $ move ! (1 ∷ 0 ∷ []) $ fjoin ! $ move ! (1 ∷ 0 ∷ []) $ join ! $ move ! (0 ∷ 3 ∷ []) $
          join ! $
          -- [what the next call takes; the other tokens; how the map rests]
          use1 𝓛 (raw (𝓣.C second (v ∷ []) (Y.post y))) (met y) $
          move ! (1 ∷ 2 ∷ []) $ join ! $ move ! (1 ∷ 0 ∷ []) $
          use2 𝓛 (raw (𝓣.C second (v ∷ []) answers)) (framed 𝓤 𝓛.H 𝓜 𝓣 second (v ∷ []) (Y.post y) answers
          (sep 𝓤 Others (sem 𝓛 (rests κs s x))) (λ v₂. answered x facts v v₂)) $
          use0 𝓛 (raw (fact 𝓤 (Good (layout R) v))) (fact_i 𝓤 (Good (layout R) v) (emp 𝓤) good) $
          join ! $ now ! $ done !))))

    -- a function whose parameters are passed to the first call unchanged
    module _ (n : ℕ) (l : Passed 𝓛 n) (O : List (Outlives n)) (ss : List (Slot n)) (ks : Kepts ss)
        (hs : Stays ss ks)
        (bounds : (κs : Lfts n) → AllOutlive n O κs
        → AllOutlive 5 (lends.signature K V S T e de p dp h dh b db w dw dd).outlives (l.five κs)) where
      abbrev First : Ended
      First = ended n O ss ks (λ κs. Made (l.five κs))

      abbrev pub Both : Ended
      Both = ended n O ss ks (λ κs. Lent_out (l.five κs))

      module _ (s : (κs : Lfts n) → Args Both.signature κs → Enters (l.five κs))
          (Rest : (κs : Lfts n) → Args Both.signature κs → SProp 𝓤) where
        abbrev enters : Clauses 𝓤 First
        enters =
            clauses 𝓤 First (λ κs a. asks (l.five κs) (Rest κs a))
            (λ κs a x. sep 𝓤 (sem 𝓛 (rests (l.five κs) (s κs a) x)) ((s κs a).Says x))

        abbrev enters_and_lends : Clauses 𝓤 Both
        enters_and_lends =
            clauses 𝓤 Both (λ κs a. asks (l.five κs) (Rest κs a))
            (λ κs a r. sep 𝓤 (sem 𝓛 (lent (l.five κs) (s κs a) r)) ((s κs a).Tells r))

        pub entered_and_lent : (go : AllGo 𝓛 n ss ks hs) (ws : (κs : Lfts n) (a : Args Both.signature κs)
            → Lasts Both κs a) → ((κs : Lfts n) (a : Args Both.signature κs) → Fit Both hs κs a (ws κs a))
            → ((κs : Lfts n) (a : Args Both.signature κs) (vss : Valss (types_at ss κs))
            → ent 𝓤 (emp 𝓤) (sem 𝓛 (has_of κs ss ks hs a (ws κs a) vss)))
            → (k k₁ k₂ : Callee) (fn : Fn)
            → Meets 𝓛 First.signature ((tables 𝓤 𝓛.H 𝓜 𝓡 𝓡.env).C k₁) (closing 𝓛 First enters)
            → Meets 𝓛 (lends.signature K V S T e de p dp h dh b db w dw dd)
            ((tables 𝓤 𝓛.H 𝓜 𝓡 𝓡.env).C k₂)
            (lends.spec K V S T e de p dp h dh b db w dw dd 𝓛 𝓜.mem 𝓡.returns)
            → Closed 𝓤 𝓛.H (tables 𝓤 𝓛.H 𝓜 𝓡 𝓡.env).C (tables 𝓤 𝓛.H 𝓜 𝓡 𝓡.env).Λ k fn
            → ((κs : Lfts n) (a : Args Both.signature κs) (vss : Valss (types_at ss κs))
            → Are (types_at ss κs) (Ises (types_at ss κs)) a vss → (us : Valss (types_at ss κs)) × (vss ≡ us)
            × ((A : SProp 𝓤) (Q : Val → SProp 𝓤) (Post : Val → SProp 𝓤)
            → ent 𝓤 A ((tables 𝓤 𝓛.H 𝓜 𝓡 𝓡.env).C k₁ (flat (types_at ss κs) us)
            (then_with 𝓛 (Made (l.five κs)) Q))
            → ((v : Val) → ent 𝓤 (Q v) ((tables 𝓤 𝓛.H 𝓜 𝓡 𝓡.env).C k₂ (v ∷ [])
            (then_with 𝓛 (Lent_out (l.five κs)) Post)))
            → ent 𝓤 A (WpFn 𝓤 𝓛.H (tables 𝓤 𝓛.H 𝓜 𝓡 𝓡.env).C (tables 𝓤 𝓛.H 𝓜 𝓡 𝓡.env).Λ fn
            (flat (types_at ss κs) us) Post)))
            → Meets 𝓛 Both.signature ((tables 𝓤 𝓛.H 𝓜 𝓡 𝓡.env).C k) (closing 𝓛 Both enters_and_lends)
        entered_and_lent go ws fit left k k₁ k₂ fn met₁ met₂ closed walk =
            let H = 𝓛.H in let 𝓣 = tables 𝓤 H 𝓜 𝓡 𝓡.env in let c = enters_and_lends in
            proved_at 𝓛 Both hs c 𝓜 𝓡 go k fn closed (λ z are.
            let κs = z.0.0 in let qs = z.0.1 in let a = z.0.3 in let vss = z.0.4 in
            let κs₅ = l.five κs in let Alive = alive 𝓛 Both.signature κs qs in
            let Post : Val → SProp 𝓤 = (walk_of 𝓛 Both hs c).post z in
            let R : RattleType = Lent_out κs₅ in
            let Y = triple_of 𝓛 First.signature (closing 𝓛 First enters) in
            let y : Y.Ghost = ((κs, qs, z.0.2, a, vss), tt) in
            let Q₁ : Val → SProp 𝓤 = λ v. 𝓣.C k₂ (v ∷ []) (then_with 𝓛 R Post) in
            let Q = then_with 𝓛 (Made κs₅) Q₁ in let Types = types_at ss κs in
            let at = walk κs a vss are in
            let Ensured = λ (r : R.Denot). sep 𝓤 (sem 𝓛 (lent κs₅ (s κs a) r)) ((s κs a).Tells r) in
            let ends : (v : Val) (r : R.Denot)
            → ent 𝓤 (sep 𝓤 Alive (sep 𝓤 (sem 𝓛 (R.own_val r (v ∷ []))) (Ensured r))) (Post v) = λ v r.
            qed 𝓛 (raw Alive ∷ ‵ (R.own_val r (v ∷ [])) ∷ raw (Ensured r) ∷ []) ∵
            use0 𝓛 (‵ (has_of κs ss ks hs a (ws κs a) vss)) (left κs a vss) $
            move ! (1 ∷ 0 ∷ 2 ∷ 3 ∷ []) $ by ! (leaves 𝓛 Both hs c z v r (ws κs a) (fit κs a)) in
            qed 𝓛 (raw (on_entry 𝓛 Both.signature κs qs a vss) ∷ raw (asks κs₅ (Rest κs a)) ∷ []) ∵
            move ! (1 ∷ []) $ use1 𝓛 (raw (asks κs₅ (Rest κs a)) ⊛ raw (asks κs₅ (emp 𝓤)))
            (asks_again 𝓤 (κs₅.1.0 ⊑ K.lives) (κs₅.1.1.0 ⊑ V.lives) (κs₅.1.1.1.0 ⊑ S.lives)
            (κs₅.1.1.1.1.0 ⊑ T.lives) 𝓛 (Rest κs a)) $ split ! $ move ! (2 ∷ 0 ∷ []) $ join ! $
            use1 𝓛 (raw (𝓣.C k₁ (Y.args y) (Y.post y))) (met₁ y) $
            use2 𝓛 (raw (𝓣.C k₁ (Y.args y) Q)) (framed 𝓤 H 𝓜 𝓣 k₁ (Y.args y) (Y.post y) Q (asks κs₅ (emp 𝓤))
            (λ v. goes_on κs₅ (l.shares qs) (bounds κs z.0.2) (s κs a) Alive (l.others κs qs)
            (l.apart κs qs) (l.joins κs qs) Post k₂ met₂ ends (Lasts First κs a) (lasts First κs a) v)) $
            by ! (subst (λ (us : Valss Types). ent 𝓤 (𝓣.C k₁ (flat Types us) Q)
            (WpFn 𝓤 H 𝓣.C 𝓣.Λ fn (flat Types us) Post)) (sym at.1)
            (at.2 (𝓣.C k₁ (flat Types at.0) Q) Q₁ Post (id⊢ 𝓤 _) (λ v. id⊢ 𝓤 (Q₁ v)))))
