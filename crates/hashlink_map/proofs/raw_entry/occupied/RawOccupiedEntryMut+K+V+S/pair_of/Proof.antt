-- `pair_of` lends the pair of an entry, or hands the error on.
use Rattle.hashlink_map.proofs.Names
use Names.{◌≡◌, List, [], ◌∷◌, ◌++◌, refl, sym, ap, subst, ◌∙◌, lit<, SProp, ent, id⊢, via, emp, ftrue, flft}
use Names.{fsep, a_type, dcons, dnil, inst_fn, Val, of_list, vstruct, WpFn, Wp, after_seq, sem, live, vrt}
use Names.{in_variant, whole, agg, stop, fld, of_opd, lit, and_then, no_more, first, switches_on, exec}
use Names.{returns, enter, alloc_all, pass_all, free_all, look_at, get, get_in, get_tag, sets, sets_last}
use Names.{lands_as, env, fact, fact_i, Lfts, tables, no, Last, left, Is, shows, Typed, bounded, layout}
use Names.{param, Laws, Good, RattleType, owns, mut_vals, shr_vals, types_at, plain, nothing, peeks, only}
use Names.{calls_at, lasts, Lasts, triple_of, framed, Stays, stay_dropped, walk_of, after, head, arm_body}
use Names.{proved_at, leaves, Ok, Err, slice_get, raw_occupied_state, raw_place, RawLendsForGood}
use Rattle.std.specs.Prelude.{Some}
use Rattle.hashlink_map.proofs.PairRows.{Given, given_laws, Lent, Answer, Held, held_laws, Entered}
use Rattle.hashlink_map.proofs.{PairRows.entered_laws, PairValues.{valued, ok_had, err_had}}
use Rattle.hashlink_map.specs.contracts.raw_entry.occupied.RawOccupiedEntryMut+K+V+S.pair_of as f
use Rattle.hashlink_map.specs.contracts.raw_entry.occupied.RawOccupiedEntryMut+K+V+S.into_key_value as g
use Rattle.hashlink_map.proofs.raw_entry.occupied.RawOccupiedEntryMut+K+V+S.into_key_value.Met.{met}
use Rattle.hashlink_map.proofs.raw_entry.occupied.RawOccupiedEntryMut+K+V+S.pair_of.Statement.{statement}
use Rattle.hashlink_map.proofs.raw_entry.occupied.RawOccupiedEntryMut+K+V+S.pair_of.Code as code
use types.Kit.{‵, raw, ◌⊛◌, some, later, at_ret, any_q, post, ◌$◌, ◌∵◌, !, qed, by, move, keep, drop, split}
use types.Kit.{join, fsplit, fjoin, pick, await, rewrite, use0, use1, suffices, done}
use Rattle.std.proofs.ResultValues.{ok_of, err_of}

pub pair_of_spec : {M : Type 1} → statement M
pair_of_spec 𝓤 𝓛 𝓜 𝓡 wired K V S T LK LV LS LT e de p dp h dh b db w dw dd me mp mh mb mw md =
    let H = 𝓛.H in let 𝓣 = tables 𝓤 H 𝓜 𝓡 𝓡.env in
    let En = f.ended K V S T e de p dp h dh b db w dw dd in
    let c = f.clauses K V S T e de p dp h dh b db w dw dd 𝓛 𝓜.mem 𝓡.returns in
    let inst = bounded (a_type ∷ a_type ∷ a_type ∷ a_type ∷ []) (K, (V, (S, (T, tt))))
    (dcons de (dcons dp (dcons dh (dcons db (dcons dw (dcons dd dnil)))))) in
    let fn = inst_fn inst code.function in
    let entered = plain (λ (κs : Lfts 5). Entered K V LK LV κs.0 S T LS LT p h b w) in
    let hs : Stays En.signature.params En.kept = (stay_dropped entered no, tt) in
    proved_at 𝓛 En hs c 𝓜 𝓡 (
      (λ κs x f vs ok. (elim x as
          (λ y. (l : Last ((Entered K V LK LV κs.0 S T LS LT p h b w).exit no) y) → ent 𝓤
          (sem 𝓛 ftrue) (H.⇛ (sem 𝓛 (left ((Entered K V LK LV κs.0 S T LS LT p h b w).exit no) y l)))) [
            | Ok o ↦ λ l. via 𝓤 (sem 𝓛 (fsep (fsep ftrue ftrue) ftrue))
                (qed 𝓛 (‵ ftrue ∷ []) ∵ nothing ! $ fjoin ! $
                nothing ! $ move ! (1 ∷ 0 ∷ []) $ fjoin ! $ done !)
                (𝓛.laws.⇛_intro (sem 𝓛 (fsep (fsep ftrue ftrue) ftrue)))
            | Err g ↦ λ l. via 𝓤 (sem 𝓛 (fsep (fsep ftrue (fsep ftrue ftrue)) ftrue)) (qed 𝓛
                (‵ ftrue ∷ []) ∵ nothing ! $ fjoin ! $ nothing ! $ fjoin ! $ nothing ! $
                move ! (1 ∷ 0 ∷ []) $ fjoin ! $
                done !)
                (𝓛.laws.⇛_intro (sem 𝓛 (fsep (fsep ftrue (fsep ftrue ftrue)) ftrue)))
          ]) f),
      tt,
    )
    (f.Key.name inst) fn (code.unfolded 𝓤 H 𝓜 𝓡 wired (K, (V, (S, (T, tt)))) de dp dh db dw dd) (λ z are.
    let κs = z.0.0 in let qs = z.0.1 in let κ = κs.0 in
    let W = walk_of 𝓛 En hs c in
    let In : RattleType = Entered K V LK LV κ S T LS LT p h b w in
    let HR : RattleType = Held K V LK LV κ S T LS LT p h b w in
    let LH : Laws HR = held_laws K V LK LV κ S T LS LT p h b w in
    let GR : RattleType = Given K V LK LV in let LG : Laws GR = given_laws K V LK LV in
    let PR : RattleType = Lent K V LK LV κ in
    let toks = ‵ (flft κs.0 qs.0) ⊛ ‵ (flft κs.1.0 qs.1.0) ⊛ ‵ (flft κs.1.1.0 qs.1.1.0) ⊛ ‵
    (flft κs.1.1.1.0 qs.1.1.1.0) ⊛ ‵ (flft κs.1.1.1.1.0 qs.1.1.1.1.0) ⊛ ‵ ftrue in
    let At : In.Denot → List Val → W.Ghost = λ x vs. ((κs, qs, z.0.2, (x, tt), (vs, tt)), tt) in
    let Asks : SProp 𝓤 = (c κs z.0.3).requires tt in
    let Goes : In.Denot → Type 1 = λ x. (vs : List Val) → Is In x vs → ent 𝓤 (W.pre (At x vs))
    (WpFn 𝓤 H 𝓣.C 𝓣.Λ fn (W.args (At x vs)) (W.post (At x vs))) in
    let good : (x : In.Denot) (v : Val) (vs : List Val) → Is In x vs → vs ≡ v ∷ [] → Good (layout In) v
    = λ x v vs is e. (subst (Typed (layout In ∷ [])) e
    (((entered_laws K V LK LV κ S T LS LT p h b w).lawful 𝓛).typed x vs is)).0 in
    let lent : (o : HR.Denot) → Goes (Ok o) = λ o vs is.
    qed 𝓛 ((toks ⊛ ‵ (owns (types_at En.signature.params κs) (Ok o, tt) (vs, tt))) ∷ raw Asks ∷ []) ∵
    split ! $
    move ! (1 ∷ []) $ fsplit ! $ ok_had ! HR GR o vs (λ ws is_live. valued ! HR LH o ws (λ v is_v fits.
    let val : Val = live 0 (of_list (v ∷ [])) in
    let is_val : vs ≡ val ∷ [] = is_live ∙ ap (λ us. live 0 (of_list (us ++ [])) ∷ []) is_v in
    let Post : Val → SProp 𝓤 = W.post (At (Ok o) vs) in
    suffices ! (WpFn 𝓤 H 𝓣.C 𝓣.Λ fn (val ∷ []) Post) (subst (λ (us : List Val). ent 𝓤 (WpFn 𝓤 H 𝓣.C 𝓣.Λ fn
    (val ∷ []) Post) (WpFn 𝓤 H 𝓣.C 𝓣.Λ fn (us ++ []) Post)) (sym is_val) (id⊢ 𝓤 _)) $
    -- [the entry; nothing; the tokens; the requires]
    enter ! 𝓣.C 𝓣.Λ fn _ Post $ alloc_all ! (λ l. pass_all ! refl (good (Ok o) val vs is is_val, tt) $
    let Ev = env fn.locals l in
    first ! $ switches_on ! (get_tag ! (vrt ! refl (fld ! refl (stop !))) (whole !)) $
    exec ! 𝓣.C 𝓣.Λ Ev (arm_body 0 (head fn.body)) (any_q (after_seq 𝓤 H (Wp 𝓤 H 𝓣.C 𝓣.Λ Ev (after 1 fn.body)
    (post 𝓤 H (at_ret Ev Post))) (post 𝓤 H (at_ret Ev Post)))) $
    sets ! (of_opd ! (get_in ! (vrt ! refl (fld ! refl (stop !))) (in_variant ! 0 0 refl refl (whole !))))
    refl fits $
    sets ! (of_opd ! (get ! refl)) refl fits $
    fjoin ! $ move ! (1 ∷ 0 ∷ []) $ join ! $ join ! $
    let Y = triple_of 𝓛 (g.signature K V S T e de p dp h dh b db w dw dd)
    (g.spec K V S T e de p dp h dh b db w dw dd 𝓛 𝓜.mem 𝓡.returns) in
    let y : Y.Ghost = ((κs, qs, z.0.2, (o, tt), (v ∷ [], tt)), tt) in
    let cg = g.clauses K V S T e de p dp h dh b db w dw dd 𝓛 𝓜.mem 𝓡.returns in
    let Eg = g.ended K V S T e de p dp h dh b db w dw dd in
    let Follows : PR.Denot → SProp 𝓤 = λ q. sem 𝓛 (RawLendsForGood (param 0 K) (param 1 V) (param 2 S)
    (param 3 T) o q.1) in
    let HasPair : PR.Denot → Type 0 = λ q. slice_get (raw_occupied_state o).map.entries (raw_place o) ≡ Some
    (q.0.now, q.1.now) in
    use1 𝓛 (raw (Y.pre y)) (id⊢ 𝓤 (Y.pre y)) $
    calls_at ! (framed 𝓤 H 𝓜 𝓣) Y (met 𝓤 𝓛 𝓜 𝓡
    (code.calls-hashlink_map::raw_entry::occupied::RawOccupiedEntryMut+K+V+S::into_key_value 𝓡.env wired)
    K V S T
    LK LV LS LT e de p dp h dh b db w dw dd me mp mh mb mw md) y (and_then ! (get ! refl) (no_more !)) (λ v'.
    use1 𝓛 (later (some (λ (q : PR.Denot). (toks ⊛ ‵ (PR.own_val q (v' ∷ []))) ⊛ some (λ (ls : Lasts Eg κs
    (o, tt)). ‵ (lasts Eg κs (o, tt) ls) ⊛ (raw (Follows q) ⊛ raw (fact 𝓤 (HasPair q)))))))
    (id⊢ 𝓤 (Y.post y v')) $
    await ! tt $ pick ! (λ q. split ! $ move ! (1 ∷ []) $ pick ! (λ ls. split ! $ drop ! $ split ! $
    move ! (2 ∷ []) $ split ! $ move ! (1 ∷ []) $
    peeks ! PR _ (shows 𝓛 PR) q (v' ∷ []) (λ are_two.
    let pair : Val = vstruct (of_list (shr_vals q.0 ++ (mut_vals q.1 ++ []))) in
    let is_pair : v' ≡ pair = ap only are_two.1.0 ∙ (λ i. vstruct (of_list (are_two.1.1.0.0 i ++
    (are_two.1.1.1.0.0 i ++ [])))) in
    rewrite ! 0 (λ (u : Val). ‵ (PR.own_val q (u ∷ []))) is_pair refl $
    use1 𝓛 (‵ ((Answer K V LK LV κ).own_val (Ok q) (live 0 (of_list (pair ∷ [])) ∷ [])))
    (ok_of 𝓛 PR GR q pair) $
    -- [the result; the tokens; the tie; the pair]
    lands_as ! is_pair refl (tt, (tt, (tt, tt))) $
    sets_last ! (agg ! (and_then ! (lit ! tt) (and_then ! (get ! refl) (no_more !)))) refl (
      tt,
      (record { fits = lit< tt }, ((tt, (tt, tt)), tt)),
    ) $
    exec ! 𝓣.C 𝓣.Λ Ev (after 1 fn.body) (at_ret Ev Post) $
    sets ! (of_opd ! (get ! refl)) refl (tt, (record { fits = lit< tt }, ((tt, (tt, tt)), tt))) $
    returns ! (look_at ! 0 refl) $ free_all ! refl $
    use0 𝓛 (raw (fact 𝓤 (Unit {0}))) (fact_i 𝓤 (Unit {0}) (emp 𝓤) tt) $ move ! (4 ∷ 0 ∷ []) $ join ! $
    move ! (3 ∷ 0 ∷ []) $ join ! $
    nothing ! $ nothing ! $ fjoin ! $ keep ! (3 ∷ 0 ∷ 2 ∷ 1 ∷ []) $
    by ! (leaves 𝓛 En hs c (At (Ok o) vs) (live 0 (of_list (pair ∷ []))) (Ok q)
    (((tt, tt), tt), tt) (tt, tt)))))))))
    in
    let back : (g : GR.Denot) → Goes (Err g) = λ g vs is.
    qed 𝓛 ((toks ⊛ ‵ (owns (types_at En.signature.params κs) (Err g, tt) (vs, tt))) ∷ raw Asks ∷ []) ∵
    split ! $
    move ! (1 ∷ []) $ fsplit ! $ err_had ! HR GR g vs (λ ws is_live. valued ! GR LG g ws (λ v is_v fits.
    let val : Val = live 1 (of_list (v ∷ [])) in
    let is_val : vs ≡ val ∷ [] = is_live ∙ ap (λ us. live 1 (of_list (us ++ [])) ∷ []) is_v in
    let fits_val : Good (layout In) val = good (Err g) val vs is is_val in
    let Post : Val → SProp 𝓤 = W.post (At (Err g) vs) in
    suffices ! (WpFn 𝓤 H 𝓣.C 𝓣.Λ fn (val ∷ []) Post) (subst (λ (us : List Val). ent 𝓤 (WpFn 𝓤 H 𝓣.C 𝓣.Λ fn
    (val ∷ []) Post) (WpFn 𝓤 H 𝓣.C 𝓣.Λ fn (us ++ []) Post)) (sym is_val) (id⊢ 𝓤 _)) $
    -- [the pair; nothing; the tokens; the requires]
    enter ! 𝓣.C 𝓣.Λ fn _ Post $ alloc_all ! (λ l. pass_all ! refl (fits_val, tt) $
    let Ev = env fn.locals l in
    first ! $ switches_on ! (get_tag ! (vrt ! refl (fld ! refl (stop !))) (whole !)) $
    exec ! 𝓣.C 𝓣.Λ Ev (arm_body 1 (head fn.body)) (any_q (after_seq 𝓤 H (Wp 𝓤 H 𝓣.C 𝓣.Λ Ev (after 1 fn.body)
    (post 𝓤 H (at_ret Ev Post))) (post 𝓤 H (at_ret Ev Post)))) $
    sets ! (of_opd ! (get_in ! (vrt ! refl (fld ! refl (stop !))) (in_variant ! 1 0 refl refl (whole !))))
    refl fits $
    sets ! (of_opd ! (get ! refl)) refl fits $
    sets_last ! (agg ! (and_then ! (lit ! tt) (and_then ! (get ! refl) (no_more !)))) refl fits_val $
    exec ! 𝓣.C 𝓣.Λ Ev (after 1 fn.body) (at_ret Ev Post) $
    sets ! (of_opd ! (get ! refl)) refl fits_val $
    returns ! (look_at ! 0 refl) $ free_all ! refl $
    use1 𝓛 (‵ ((Answer K V LK LV κ).own_val (Err g) (val ∷ []))) (err_of 𝓛 PR GR g v) $
    use0 𝓛 (raw (fact 𝓤 (Unit {0}))) (fact_i 𝓤 (Unit {0}) (emp 𝓤) tt) $
    use0 𝓛 (raw (fact 𝓤 (Err g ≡ Err g))) (fact_i 𝓤 (Err g ≡ Err g) (emp 𝓤) refl) $
    move ! (1 ∷ 0 ∷ []) $ join ! $
    nothing ! $ join ! $
    nothing ! $ nothing ! $ fjoin ! $ keep ! (4 ∷ 0 ∷ 2 ∷ 1 ∷ []) $
    by ! (leaves 𝓛 En hs c (At (Err g) vs) val (Err g) (((tt, (tt, tt)), tt), tt) (tt, tt)))))
    in
    (elim z.0.3.0 as Goes [
      | Ok o ↦ lent o
      | Err g ↦ back g
    ]) z.0.4.0 are.0)
