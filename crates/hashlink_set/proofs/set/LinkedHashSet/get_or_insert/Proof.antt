-- `get_or_insert` inserts the element, and then lends the last element.
use Rattle.hashlink_set.proofs.Names
use Names.{◌≡◌, List, [], ◌∷◌, ◌++◌, refl, sym, ap, subst, ◌∙◌, SProp, ent, id⊢, emp, a_type, named, ty_ptr}
use Names.{dcons, dnil, inst_fn, Val, of_list, vptr, vstruct, WpFn, sem, ‵, raw, ◌⊛◌, some, later, ◌$◌, ◌∵◌}
use Names.{ !, qed, by, move, keep, drop, split, join, fsplit, fjoin, fpick, feq_l, pick, await, rewrite}
use Names.{use0}
use Names.{use1, whole, sub, stop, fld, of_opd, addr, and_then, no_more, returns, enter, alloc_all, pass_all}
use Names.{free_all, look_at, get, get_in, through, sets, lands_as, ◌⊑◌, fact, fact_i, Lfts, tables, no, Is}
use Names.{shows, bounded, layout, param, Laws, param_laws, of_field, copy_shared, RattleType, Valss, MutRef}
use Names.{ShrRef, NamedLft, mut_vals, mut_Tells, plain, mut_ref_to, types_at, nothing, peeks, only, heard}
use Names.{shr_ref_field, shr_ref_laws, shr_ref_copy, as_fields, Tuple, calls_at, lasts, Lasts, alive}
use Names.{on_entry, triple_of, framed, Stays, stay_dropped, walk_of, Goes-spent_ref, Goes-dropped, proved_at}
use Names.{leaves, IfOk, IfErr, IsSome, None, Some, option_copied, value_of, valued, elements_of}
use Names.{stored_element, GetsOrInserts, last_of, as_seen, LastOrRefused}
use Rattle.hashlink_set.proofs.LentLast.{Asks, asked, ends_so, there_is_last, given, is_stored, is_given}
use Rattle.hashlink_set.{proofs.Names.StaysAsItWas, specs.SetLends.EndsInserted}
use Rattle.hashlink_set.proofs.set.LinkedHashSet.get_or_insert.Statement.{statement}
use Rattle.std.proofs.option.Option.TheLaws as option_laws
use Rattle.std.proofs.result.Result.TheLaws as result_laws
use Rattle.std.specs.contracts.option.Option as option
use Rattle.std.specs.contracts.result.Result as result
use Rattle.hashlink_set.specs.contracts.set.LinkedHashSet as set
use Rattle.hashlink_set.specs.contracts.set.LinkedHashSet.get_or_insert as f
use Rattle.hashlink_set.specs.contracts.set.LinkedHashSet.put_last as puts
use Rattle.hashlink_set.specs.contracts.set.LinkedHashSet.last_for_good as lends
use Rattle.hashlink_set.specs.contracts.set.LinkedHashSet.lent_or_refused as answers
use Rattle.hashlink_set.proofs.set.LinkedHashSet.put_last.Met as put
use Rattle.hashlink_set.proofs.set.LinkedHashSet.last_for_good.Met as lent
use Rattle.hashlink_set.proofs.set.LinkedHashSet.lent_or_refused.Met as answered
use Rattle.hashlink_set.proofs.set.LinkedHashSet.get_or_insert.Code as code

pub get_or_insert_spec : {M : Type 1} → statement M
get_or_insert_spec 𝓤 𝓛 𝓜 𝓡 wired T S X LT LS LX e de p dp h dh b db w dw dd dt me mp mh mb mw md mt =
    let H = 𝓛.H in let 𝓣 = tables 𝓤 H 𝓜 𝓡 𝓡.env in
    let En = f.ended T S X e de p dp h dh b db w dw dd dt in
    let c = f.clauses T S X e de p dp h dh b db w dw dd dt 𝓛 𝓜.mem 𝓡.returns in
    let TR : RattleType = param 0 T in let SR : RattleType = param 1 S in let XR : RattleType = param 2 X in
    let LTR : Laws TR = param_laws 0 T LT in
    let Set : RattleType = set.the_row TR SR XR p h b w in
    let inst = bounded (a_type ∷ a_type ∷ a_type ∷ []) (T, (S, (X, tt)))
    (dcons de (dcons dp (dcons dh (dcons db (dcons dw (dcons dd (dcons dt dnil))))))) in
    let fn = inst_fn inst code.function in
    let self = plain (λ (κs : Lfts 4). Set) in let value = plain (λ (κs : Lfts 4). TR) in
    let hs : Stays En.signature.params En.kept
    = (stay_dropped (mut_ref_to (0 ∷ []) tt self) no, (stay_dropped value no, tt)) in
    proved_at 𝓛 En hs c 𝓜 𝓡
    (Goes-spent_ref 𝓛 4 (0 ∷ []) tt self, (Goes-dropped 𝓛 4 value no (λ κs x f. refl), tt))
    (f.Key.name inst) fn (code.unfolded 𝓤 H 𝓜 𝓡 wired (T, (S, (X, tt))) de dp dh db dw dd dt) (λ z are.
    let κs = z.0.0 in let qs = z.0.1 in let a = z.0.3 in let r = a.0 in let t = a.1.0 in let κ = κs.0 in
    let W = walk_of 𝓛 En hs c in
    let Ref : RattleType = MutRef (named 0) κ Set in
    let Left : RattleType = option.the_row TR in
    let LLeft : Laws Left = option_laws.the_row_laws TR LTR in
    let at_κ : NamedLft = record { mir = named 0; lft = κ } in
    let Shr : RattleType = ShrRef (named 0) κ TR in
    let LShr : Laws Shr = of_field (shr_ref_field at_κ TR tt) (shr_ref_laws at_κ TR tt) refl
    (copy_shared (shr_ref_field at_κ TR tt) (shr_ref_copy at_κ TR tt LTR.shr_laws)) in
    let Out : RattleType = option.the_row Shr in
    let LOut : Laws Out = option_laws.the_row_laws Shr LShr in
    let Ans : RattleType = result.the_row Shr TR in
    let LAns : Laws Ans = result_laws.the_row_laws Shr TR LShr LTR in
    let Mid : RattleType = Tuple (Ref ∷ Left ∷ []) in
    let is_ref : z.0.4.0 ≡ mut_vals r = mut_Tells (named 0) κ Set r z.0.4.0 are.0 in
    let value_at = value_of 𝓛 TR LTR t z.0.4.1.0 are.1.0 in
    let At : Valss (types_at En.signature.params κs) → W.Ghost = λ us. ((κs, qs, z.0.2, a, us), z.1) in
    let vs : List Val = mut_vals r ++ (value_at.0 ∷ []) in
    let vss : Valss (types_at En.signature.params κs) = (mut_vals r, (value_at.0 ∷ [], tt)) in
    let Post : Val → SProp 𝓤 = W.post (At vss) in
    let A = κs.1.0 ⊑ T.lives in let B = κs.1.1.0 ⊑ S.lives in let C = κs.1.1.1.0 ⊑ X.lives in
    let Y = triple_of 𝓛 (puts.signature T S X e de p dp h dh b db w dw dd dt)
    (puts.spec T S X e de p dp h dh b db w dw dd dt 𝓛 𝓜.mem 𝓡.returns) in
    let y : Y.Ghost = ((κs, qs, z.0.2, a, vss), tt) in
    let E₁ = puts.ended T S X e de p dp h dh b db w dw dd dt in
    let Same : Mid.Denot → Type 0 = λ q. q.0.ghost_name ≡ r.ghost_name in
    let States = λ (q : Mid.Denot). GetsOrInserts p.eq r.now q.0.now t in
    let Puts : Mid.Denot → Type 0 = λ q. LastOrRefused q.0.now (States q) q.1 in
    subst (λ (us : Valss (types_at En.signature.params κs)). ent 𝓤 (W.pre (At us))
    (WpFn 𝓤 H 𝓣.C 𝓣.Λ fn (W.args (At us)) (W.post (At us)))) (λ i. (sym is_ref i, (sym value_at.1 i, tt))) (
    qed 𝓛 (raw (on_entry 𝓛 En.signature κs qs a vss) ∷ raw ((c κs a).requires z.1) ∷ []) ∵ move ! (1 ∷ []) $
    use1 𝓛 (raw (fact 𝓤 A) ⊛ raw (fact 𝓤 B) ⊛ raw (fact 𝓤 C) ⊛ raw (emp 𝓤)) (id⊢ 𝓤 (Asks 𝓤 A B C (emp 𝓤))) $
    split ! $ heard ! A (λ has_A. split ! $ heard ! B (λ has_B. split ! $ heard ! C (λ has_C.
    use1 𝓛 (raw (Asks 𝓤 A B C (emp 𝓤))) (asked 𝓤 A B C 𝓛 (emp 𝓤) has_A has_B has_C) $
    move ! (1 ∷ 0 ∷ []) $ join ! $ use1 𝓛 (raw (Y.pre y)) (id⊢ 𝓤 (Y.pre y)) $
    enter ! 𝓣.C 𝓣.Λ fn vs Post $ alloc_all ! (λ l. pass_all ! refl ((tt, tt), (value_at.2, tt)) $
    sets ! (addr ! (through ! refl (stop !))) refl (tt, tt) $
    sets ! (of_opd ! (get ! refl)) refl value_at.2 $
    calls_at ! (framed 𝓤 H 𝓜 𝓣) Y
    (put.met 𝓤 𝓛 𝓜 𝓡 (code.calls-hashlink_set::set::LinkedHashSet::put_last 𝓡.env wired)
    T S X LT LS LX e de p dp
    h dh b db w dw dd dt me mp mh mb mw md mt) y
    (and_then ! (get ! refl) (and_then ! (get ! refl) (no_more !))) (λ v.
    use1 𝓛 (later (some (λ (q : Mid.Denot). (raw (alive 𝓛 En.signature κs qs) ⊛ ‵ (Mid.own_val q (v ∷ []))) ⊛
    some (λ (ls : Lasts E₁ κs a). ‵ (lasts E₁ κs a ls) ⊛ (raw (fact 𝓤 (Same q)) ⊛ raw (fact 𝓤 (Puts q)))))))
    (id⊢ 𝓤 (Y.post y v)) $
    await ! tt $ pick ! (λ q. split ! $ move ! (1 ∷ []) $
    pick ! (λ ls. split ! $ drop ! $ split ! $ heard ! (Same q) (λ same. heard ! (Puts q) (λ put_in.
    split ! $ move ! (1 ∷ []) $ fpick ! (λ wss. fsplit ! $ feq_l ! (λ is_mid. fsplit ! $
    peeks ! Ref _ (shows 𝓛 Ref) q.0 wss.0
    (λ is. let e0 : wss.0 ≡ mut_vals q.0 = mut_Tells (named 0) κ Set q.0 wss.0 is in
    rewrite ! 0 (λ (us : List Val). ‵ (Ref.own_val q.0 us)) e0 refl $ move ! (1 ∷ []) $ fsplit ! $
    valued ! Left LLeft q.1 wss.1.0 (λ u is_u fits.
    let mid : Val = vstruct (of_list (mut_vals q.0 ++ (u ∷ []))) in
    let is : v ≡ mid = ap only is_mid ∙ (λ i. vstruct (of_list (e0 i ++ (is_u i ++ [])))) in
    move ! (1 ∷ []) $ drop ! $
    -- [what was refused; the set; the tokens]
    lands_as ! is refl (as_fields (ty_ptr ∷ layout Left ∷ []) (vptr q.0.ref_ptr.0 q.0.ref_ptr.1 ∷ u ∷ [])
    ((tt, tt), (fits, tt))) $
    sets ! (of_opd ! (get_in ! (fld ! refl (stop !)) (sub ! 0 refl (whole !)))) refl (tt, tt) $
    sets ! (of_opd ! (get_in ! (fld ! refl (stop !)) (sub ! 1 refl (whole !)))) refl fits $
    sets ! (addr ! (through ! refl (stop !))) refl (tt, tt) $
    nothing ! $ move ! (2 ∷ 0 ∷ []) $ fjoin ! $ move ! (2 ∷ 0 ∷ []) $ join ! $
    use0 𝓛 (raw (Asks 𝓤 A B C (emp 𝓤))) (asked 𝓤 A B C 𝓛 (emp 𝓤) has_A has_B has_C) $
    move ! (1 ∷ 0 ∷ []) $ join ! $
    let Y₂ = triple_of 𝓛 (lends.signature T S X e de p dp h dh b db w dw dd)
    (lends.spec T S X e de p dp h dh b db w dw dd 𝓛 𝓜.mem 𝓡.returns) in
    let y₂ : Y₂.Ghost = ((κs, qs, z.0.2, (q.0, tt), (mut_vals q.0, tt)), tt) in
    let E₂ = lends.ended T S X e de p dp h dh b db w dw dd in
    let Rests : SProp 𝓤 = sem 𝓛
    (StaysAsItWas TR SR XR (record { eq = p.eq; hash_input = h.hash_input }) b w q.0) in
    let Last : Out.Denot → Type 0 = λ o. option_copied o ≡ last_of (elements_of q.0.now) in
    use1 𝓛 (raw (Y₂.pre y₂)) (id⊢ 𝓤 (Y₂.pre y₂)) $
    calls_at ! (framed 𝓤 H 𝓜 𝓣) Y₂
    (lent.met 𝓤 𝓛 𝓜 𝓡 (code.calls-hashlink_set::set::LinkedHashSet::last_for_good 𝓡.env wired)
    T S X LT LS LX e de
    p dp h dh b db w dw dd me mp mh mb mw md) y₂ (and_then ! (get ! refl) (no_more !)) (λ v₂.
    use1 𝓛 (later (some (λ (o : Out.Denot). (raw (alive 𝓛 En.signature κs qs) ⊛ ‵ (Out.own_val o (v₂ ∷ []))) ⊛
    some
    (λ (ls : Lasts E₂ κs (q.0, tt)). ‵ (lasts E₂ κs (q.0, tt) ls) ⊛ (raw Rests ⊛ raw (fact 𝓤 (Last o)))))))
    (id⊢ 𝓤 (Y₂.post y₂ v₂)) $
    await ! tt $ pick ! (λ o. split ! $ move ! (1 ∷ []) $
    pick ! (λ ls₂. split ! $ drop ! $ split ! $ move ! (1 ∷ []) $ heard ! (Last o) (λ last.
    move ! (1 ∷ []) $ split ! $ move ! (1 ∷ []) $
    -- [what is lent; the tokens; how the set ends; what was refused]
    peeks ! Out (Is Out) (shows 𝓛 Out) o (v₂ ∷ []) (λ is_out.
    lands_as ! refl refl ((LOut.lawful 𝓛).typed o (v₂ ∷ []) is_out).0 $
    sets ! (of_opd ! (get ! refl)) refl fits $
    let Some_there : Type 0 = q.1 ≡ None → IsSome o in
    let there : Some_there = there_is_last q.0.now (States q) q.1 o put_in last in
    nothing ! $ move ! (4 ∷ 0 ∷ []) $ fjoin ! $ move ! (1 ∷ 0 ∷ []) $ fjoin ! $ move ! (1 ∷ 0 ∷ []) $ join ! $
    use0 𝓛 (raw (fact 𝓤 Some_there)) (fact_i 𝓤 Some_there (emp 𝓤) there) $
    use1 𝓛 (raw (Asks 𝓤 A B C (fact 𝓤 Some_there))) (asked 𝓤 A B C 𝓛 (fact 𝓤 Some_there) has_A has_B has_C) $
    move ! (1 ∷ 0 ∷ []) $ join ! $
    let Y₃ = triple_of 𝓛 (answers.signature T S X)
    (answers.spec T S X e de p dp h dh b db w dw dd dt 𝓛 𝓜.mem 𝓡.returns) in
    let y₃ : Y₃.Ghost = ((κs, qs, (z.0.2.0, tt), (o, (q.1, tt)), (v₂ ∷ [], (u ∷ [], tt))), tt) in
    let E₃ = answers.ended T S X e de p dp h dh b db w dw dd dt in
    let IsLent : Ans.Denot → Type 0 = λ x. IfOk x (λ k. (q.1 ≡ None) × (option_copied o ≡ Some k.now)) in
    let IsRefused : Ans.Denot → Type 0 = λ x. IfErr x (λ k. q.1 ≡ Some k) in
    use1 𝓛 (raw (Y₃.pre y₃)) (id⊢ 𝓤 (Y₃.pre y₃)) $
    calls_at ! (framed 𝓤 H 𝓜 𝓣) Y₃
    (answered.met 𝓤 𝓛 𝓜 𝓡 (code.calls-hashlink_set::set::LinkedHashSet::lent_or_refused 𝓡.env wired)
    T S X LT LS LX
    e de p dp h dh b db w dw dd dt me mp mh mb mw md mt) y₃
    (and_then ! (get ! refl) (and_then ! (get ! refl) (no_more !))) (λ v₃.
    use1 𝓛 (later (some (λ (x : Ans.Denot). (raw (alive 𝓛 En.signature κs qs) ⊛ ‵ (Ans.own_val x (v₃ ∷ []))) ⊛
    some (λ (ls : Lasts E₃ κs (o, (q.1, tt))). ‵ (lasts E₃ κs (o, (q.1, tt)) ls) ⊛
    (raw (fact 𝓤 (IsLent x)) ⊛ raw (fact 𝓤 (IsRefused x))))))) (id⊢ 𝓤 (Y₃.post y₃ v₃)) $
    await ! tt $ pick ! (λ x. split ! $ move ! (1 ∷ []) $ pick ! (λ ls₃. split ! $ drop ! $ split ! $
    heard ! (IsLent x) (λ is_lent. heard ! (IsRefused x) (λ is_refused. split ! $ move ! (1 ∷ []) $
    peeks ! Ans (Is Ans) (shows 𝓛 Ans) x (v₃ ∷ []) (λ is_ans.
    lands_as ! refl refl ((LAns.lawful 𝓛).typed x (v₃ ∷ []) is_ans).0 $
    returns ! (look_at ! 0 refl) $ free_all ! refl $
    -- [the result; the tokens; how the set ends]
    let Gets : Set.Denot → Type 0 = λ new. GetsOrInserts p.eq r.now new t (as_seen x) in
    let gets : Gets q.0.now = given q.0.now (States q) q.1 o x put_in last is_lent is_refused in
    let Ends : SProp 𝓤 = sem 𝓛
    (EndsInserted TR SR XR (record { eq = p.eq; hash_input = h.hash_input }) b w r t x) in
    let Stored : Type 0 = IfOk x (λ k. k.now ≡ stored_element p.eq (elements_of r.now) t) in
    let Given : Type 0 = IfErr x (λ k. k ≡ t) in
    move ! (2 ∷ []) $ use1 𝓛 (raw Ends)
    (ends_so 𝓛 Set (λ new. new ≡ q.0.now) Gets q.0.ghost_name r.ghost_name same
    (λ new is_now. subst Gets (sym is_now) gets)) $
    use0 𝓛 (raw (fact 𝓤 Stored)) (fact_i 𝓤 Stored (emp 𝓤) (is_stored p.eq r.now q.0.now t x gets)) $
    use0 𝓛 (raw (fact 𝓤 Given)) (fact_i 𝓤 Given (emp 𝓤) (is_given p.eq r.now q.0.now t x gets)) $
    move ! (1 ∷ 0 ∷ []) $ join ! $ move ! (1 ∷ 0 ∷ []) $ join ! $
    -- [what is ensured; the answer; the tokens]
    nothing ! $ nothing ! $ fjoin ! $ nothing ! $ fjoin ! $ keep ! (3 ∷ 0 ∷ 2 ∷ 1 ∷ []) $
    by ! (leaves 𝓛 En hs c (At vss) v₃ x (tt, (tt, tt)) (tt, (tt, tt)))))))))))))))))))))))))))))
