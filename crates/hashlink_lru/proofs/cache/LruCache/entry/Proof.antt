-- `entry` makes room, and then passes the map on to the map's own `entry`.
use Rattle.std.{proofs.Common.{◌≡◌, List, [], ◌∷◌, ◌++◌, refl, sym, ap, subst}, specs.Borrow.GName}
use Rattle.std.{proofs.raw_atomic.Walks.{proved_at, leaves}, specs.Map.lookup}
use base.Logic.{SProp, ent, id⊢, emp}
use mir.{Syntax.{a_type, named, dcons, dnil}, MapTy.inst_fn, Val.{Val, vptr}}
use prog.Wp.{WpFn}
use types.Kit.{‵, raw, ◌⊛◌, some, later, ◌$◌, ◌∵◌, !, qed, by, move, keep, drop, split, join, fsplit, fjoin}
use types.{Logic.sem, Kit.{pick, await, rewrite, use0, use1}}
use types.Run.{stop, of_opd, addr, and_then, no_more, returns, enter}
use types.ByLocal.{alloc_all, pass_all, free_all, look_at, get, through, sets, lands_as}
use contract.{BorrowLft.◌⊑◌, Lifetimes.Lfts, Monad.{fact, fact_i}, Running.tables}
use denote.{Exit.no, Laws.{Is, shows}, Param.{bounded, param}, Param.Laws.{Laws, param_laws}}
use denote.{RattleType.{RattleType, Valss, owns}, Ref.{MutRef, NamedLft, mut_vals, mut_Tells}}
use denote.{Signature.{plain, mut_ref_to, types_at}, Steps.{nothing, peeks, only, heard}, Triple.Entry.alive}
use denote.Triple.{Call.calls_at, Clauses.{lasts, Lasts}, Spec.triple_of, Table.framed}
use denote.Triple.Walked.{Stays, stay_dropped, walk_of, Goes-spent_ref, Goes-dropped}
use Rattle.hashlink_core.specs.Keyed as keyed
use Rattle.hashlink_map.specs.contracts.entry.Entry as place
use Rattle.hashlink_map.specs.contracts.map.LinkedHashMap as map
use Rattle.hashlink_map.specs.contracts.map.LinkedHashMap.entry as finds
use Rattle.hashlink_map.proofs.entry.Entry.TheLaws as place_laws
use Rattle.hashlink_map.proofs.map.LinkedHashMap.entry.Met as found
use Rattle.hashlink_lru.specs.contracts.cache.LruCache as cache
use Rattle.hashlink_lru.specs.contracts.cache.LruCache.entry as f
use Rattle.hashlink_lru.specs.contracts.cache.LruCache.roomy_map as makes
use Rattle.hashlink_lru.proofs.cache.LruCache.roomy_map.Met as made
use Rattle.hashlink_lru.proofs.cache.LruCache.entry.Code as code
use Rattle.hashlink_model.specs.{Cache.{EntersCache, EvictsFront}, Entries.IsEntries, Entry.entry_of}
use Rattle.hashlink_core.specs.Keyed.{entries_of}
use Rattle.hashlink_map.specs.Entry.{entry_map, entry_state, entry_value}
use Rattle.hashlink_map.proofs.{PairSteps.{Asks, asks_again}, PairValues.value_of}
use Rattle.hashlink_lru.{proofs.Entering.{enters, distinct}, specs.Cached.state_of, specs.Lends.HandsOnMap}
use Rattle.hashlink_lru.proofs.cache.LruCache.entry.Statement.{statement}

pub entry_spec : {M : Type 1} → statement M
entry_spec 𝓤 𝓛 𝓜 𝓡 wired K V S T LK LV LS LT e de p dp h dh b db w dw dd dk dv me mp mh mb mw md mk mv =
    let H = 𝓛.H in let 𝓣 = tables 𝓤 H 𝓜 𝓡 𝓡.env in
    let En = f.ended K V S T e de p dp h dh b db w dw dd dk dv in
    let c = f.clauses K V S T e de p dp h dh b db w dw dd dk dv 𝓛 𝓜.mem 𝓡.returns in
    let KR : RattleType = param 0 K in let VR : RattleType = param 1 V in
    let SR : RattleType = param 2 S in let TR : RattleType = param 3 T in
    let Cache : RattleType = cache.the_row KR VR SR TR p h b w in
    let Map : RattleType = map.the_row KR VR SR TR p h b w in
    let inst = bounded (a_type ∷ a_type ∷ a_type ∷ a_type ∷ []) (K, (V, (S, (T, tt))))
    (dcons de (dcons dp (dcons dh (dcons db (dcons dw (dcons dd (dcons dk (dcons dv dnil)))))))) in
    let fn = inst_fn inst code.function in
    let self = plain (λ (κs : Lfts 5). Cache) in let key = plain (λ (κs : Lfts 5). KR) in
    let hs : Stays En.signature.params En.kept
    = (stay_dropped (mut_ref_to (0 ∷ []) tt self) no, (stay_dropped key no, tt)) in
    proved_at 𝓛 En hs c 𝓜 𝓡
    (Goes-spent_ref 𝓛 5 (0 ∷ []) tt self, (Goes-dropped 𝓛 5 key no (λ κs x f. refl), tt)) (f.Key.name inst) fn
    (code.unfolded 𝓤 H 𝓜 𝓡 wired (K, (V, (S, (T, tt)))) de dp dh db dw dd dk dv) (λ z are.
    let κs = z.0.0 in let qs = z.0.1 in let a = z.0.3 in let r = a.0 in let k = a.1.0 in let κ = κs.0 in
    let W = walk_of 𝓛 En hs c in
    let Ref : RattleType = MutRef (named 0) κ Map in
    let at_κ : NamedLft = record { mir = named 0; lft = κ } in
    let Out : RattleType = place.the_row at_κ KR VR SR TR p h b w in
    let LOut : Laws Out = place_laws.the_row_laws at_κ KR VR SR TR p h b w (param_laws 0 K LK)
    (param_laws 1 V LV) (param_laws 2 S LS) (param_laws 3 T LT) in
    let is_ref : z.0.4.0 ≡ mut_vals r = mut_Tells (named 0) κ Cache r z.0.4.0 are.0 in
    let key_at = value_of 𝓛 KR (param_laws 0 K LK) k z.0.4.1.0 are.1.0 in
    let At : Valss (types_at En.signature.params κs) → W.Ghost = λ us. ((κs, qs, z.0.2, a, us), z.1) in
    let vs : List Val = mut_vals r ++ (key_at.0 ∷ []) in
    let vss : Valss (types_at En.signature.params κs) = (mut_vals r, (key_at.0 ∷ [], tt)) in
    let Post : Val → SProp 𝓤 = W.post (At vss) in
    let Again : SProp 𝓤 → SProp 𝓤 = Asks 𝓤 (κs.1.0 ⊑ K.lives) (κs.1.1.0 ⊑ V.lives) (κs.1.1.1.0 ⊑ S.lives)
    (κs.1.1.1.1.0 ⊑ T.lives) in
    let Y = triple_of 𝓛 (makes.signature K V S T e de p dp h dh b db w dw dd dk dv)
    (makes.spec K V S T e de p dp h dh b db w dw dd dk dv 𝓛 𝓜.mem 𝓡.returns) in
    let y : Y.Ghost = ((κs, qs, z.0.2, (r, tt), (mut_vals r, tt)), tt) in
    let E₁ = makes.ended K V S T e de p dp h dh b db w dw dd dk dv in
    let Hands : GName → SProp 𝓤 =
    λ n. sem 𝓛 (HandsOnMap KR VR SR TR (record { eq = p.eq; hash_input = h.hash_input })
    b w r n) in
    let old = state_of r.now in
    let Evicts : Ref.Denot → Type 0 = λ q. EvictsFront old.map (keyed.state_of q.now) old.cap in
    let Distinct : Ref.Denot → Type 0 = λ q. IsEntries p.eq (entries_of q.now) in
    subst (λ (us : Valss (types_at En.signature.params κs)). ent 𝓤 (W.pre (At us))
    (WpFn 𝓤 H 𝓣.C 𝓣.Λ fn (W.args (At us)) (W.post (At us)))) (λ i. (sym is_ref i, (sym key_at.1 i, tt))) (
    qed 𝓛 ((raw (alive 𝓛 En.signature κs qs) ⊛ ‵ (owns (types_at En.signature.params κs) a vss)) ∷ raw
    ((c κs a).requires z.1) ∷ []) ∵ split ! $ move ! (2 ∷ []) $
    use1 𝓛 (raw (Again (emp 𝓤)) ⊛ raw (Again (emp 𝓤))) (asks_again 𝓤 (κs.1.0 ⊑ K.lives) (κs.1.1.0 ⊑ V.lives)
    (κs.1.1.1.0 ⊑ S.lives) (κs.1.1.1.1.0 ⊑ T.lives) 𝓛 (emp 𝓤)) $ split ! $
    -- [what a call requires, twice; the tokens; the arguments]
    move ! (3 ∷ []) $ fsplit ! $ move ! (1 ∷ []) $ fsplit ! $ move ! (1 ∷ []) $ drop ! $
    -- [the key; the cache; what a call requires, twice; the tokens]
    nothing ! $ move ! (2 ∷ 0 ∷ []) $ fjoin ! $ move ! (4 ∷ 0 ∷ []) $ join ! $ move ! (0 ∷ 2 ∷ []) $ join ! $
    -- [what the first call requires; the key; what a call requires]
    use1 𝓛 (raw (Y.pre y)) (id⊢ 𝓤 (Y.pre y)) $
    enter ! 𝓣.C 𝓣.Λ fn vs Post $ alloc_all ! (λ l. pass_all ! refl ((tt, tt), (key_at.2, tt)) $
    sets ! (addr ! (through ! refl (stop !))) refl (tt, tt) $
    calls_at ! (framed 𝓤 H 𝓜 𝓣) Y
    (made.met 𝓤 𝓛 𝓜 𝓡 (code.calls-hashlink_lru::cache::LruCache::roomy_map 𝓡.env wired) K
    V S T LK LV LS LT e de p
    dp h dh b db w dw dd dk dv me mp mh mb mw md mk mv) y (and_then ! (get ! refl) (no_more !)) (λ v.
    use1 𝓛 (later (some (λ (q : Ref.Denot). (raw (alive 𝓛 En.signature κs qs) ⊛ ‵ (Ref.own_val q (v ∷ []))) ⊛
    some (λ (ls : Lasts E₁ κs (r, tt)). ‵ (lasts E₁ κs (r, tt) ls) ⊛ (raw (Hands q.ghost_name) ⊛
    raw (fact 𝓤 (Evicts q)) ⊛ raw (fact 𝓤 (Distinct q))))))) (id⊢ 𝓤 (Y.post y v)) $
    await ! tt $ pick ! (λ q. split ! $ move ! (1 ∷ []) $ pick ! (λ ls. split ! $ drop ! $ split ! $
    move ! (1 ∷ []) $ split ! $ heard ! (Evicts q) (λ evicts. heard ! (Distinct q) (λ apart.
    -- [how the cache ends; the tokens and the map; the key; what a call requires]
    move ! (1 ∷ []) $ split ! $ move ! (1 ∷ []) $ peeks ! Ref (Is Ref) (shows 𝓛 Ref) q (v ∷ []) (λ is.
    let is_map : v ≡ vptr q.ref_ptr.0 q.ref_ptr.1 = ap only (mut_Tells (named 0) κ Map q (v ∷ []) is) in
    rewrite ! 0 (λ (u : Val). ‵ (Ref.own_val q (u ∷ []))) is_map refl $
    lands_as ! is_map refl (tt, tt) $ sets ! (of_opd ! (get ! refl)) refl key_at.2 $
    -- [the map; the tokens; how the cache ends; the key; what a call requires]
    nothing ! $ move ! (4 ∷ 0 ∷ []) $ fjoin ! $ move ! (1 ∷ 0 ∷ []) $ fjoin ! $ move ! (1 ∷ 0 ∷ []) $ join ! $
    move ! (0 ∷ 2 ∷ []) $ join ! $
    let Y₂ = triple_of 𝓛 (finds.signature K V S T e de p dp h dh b db w dw dd)
    (finds.spec K V S T e de p dp h dh b db w dw dd 𝓛 𝓜.mem 𝓡.returns) in
    let y₂ : Y₂.Ghost = ((κs, qs, z.0.2, (q, (k, tt)), (mut_vals q, (key_at.0 ∷ [], tt))), tt) in
    let E₂ = finds.ended K V S T e de p dp h dh b db w dw dd in
    let Same : Out.Denot → Type 0 = λ o. (entry_map o).ghost_name ≡ q.ghost_name in
    let Unchanged : Out.Denot → Type 0 = λ o. (entry_map o).now ≡ q.now in
    let Found : Out.Denot → Type 0 = λ o. entry_state o ≡ entry_of p.eq (keyed.state_of q.now) k in
    let Value : Out.Denot → Type 0 = λ o. entry_value (entry_state o) ≡ lookup (p.eq k) (entries_of q.now) in
    use1 𝓛 (raw (Y₂.pre y₂)) (id⊢ 𝓤 (Y₂.pre y₂)) $
    calls_at ! (framed 𝓤 H 𝓜 𝓣) Y₂
    (found.met 𝓤 𝓛 𝓜 𝓡 (code.calls-hashlink_map::map::LinkedHashMap::entry 𝓡.env wired) K
    V S T LK LV LS LT e de p
    dp h dh b db w dw dd me mp mh mb mw md) y₂ (and_then ! (get ! refl) (and_then ! (get ! refl) (no_more !)))
    (λ v₂.
    use1 𝓛 (later (some (λ (o : Out.Denot). (raw (alive 𝓛 En.signature κs qs) ⊛ ‵ (Out.own_val o (v₂ ∷ []))) ⊛
    some (λ (ls : Lasts E₂ κs (q, (k, tt))). ‵ (lasts E₂ κs (q, (k, tt)) ls) ⊛ (raw (fact 𝓤 (Same o)) ⊛
    raw (fact 𝓤 (Unchanged o)) ⊛ raw (fact 𝓤 (Found o)) ⊛ raw (fact 𝓤 (Value o)) ⊛ raw
    (fact 𝓤 (Distinct q))))))) (id⊢ 𝓤 (Y₂.post y₂ v₂)) $
    await ! tt $ pick ! (λ o. split ! $ move ! (1 ∷ []) $ pick ! (λ ls₂. split ! $ drop ! $
    split ! $ heard ! (Same o) (λ same. split ! $ heard ! (Unchanged o) (λ unchanged. split ! $
    heard ! (Found o) (λ is_found. split ! $ heard ! (Value o) (λ value. heard ! (Distinct q) (λ apart'.
    -- [the tokens and the entry; how the cache ends]
    split ! $ move ! (1 ∷ []) $ peeks ! Out (Is Out) (shows 𝓛 Out) o (v₂ ∷ []) (λ is_out.
    lands_as ! refl refl ((LOut.lawful 𝓛).typed o (v₂ ∷ []) is_out).0 $
    returns ! (look_at ! 0 refl) $ free_all ! refl $
    -- [the entry; the tokens; how the cache ends]
    let Enters : Type 0 = EntersCache p.eq old k (entry_state o) in
    let Apart : Type 0 = IsEntries p.eq (entry_state o).map.entries in
    move ! (2 ∷ []) $ use1 𝓛 (raw (Hands (entry_map o).ghost_name))
    (subst (λ (n : GName). ent 𝓤 (Hands q.ghost_name) (Hands n)) (sym same) (id⊢ 𝓤 (Hands q.ghost_name))) $
    use0 𝓛 (raw (fact 𝓤 Enters)) (fact_i 𝓤 Enters (emp 𝓤)
    (enters p.eq (keyed.state_of q.now) k (entry_state o) is_found old evicts)) $
    use0 𝓛 (raw (fact 𝓤 Apart)) (fact_i 𝓤 Apart (emp 𝓤)
    (distinct p.eq (keyed.state_of q.now) k (entry_state o) is_found apart)) $
    move ! (1 ∷ 0 ∷ []) $ join ! $ move ! (1 ∷ 0 ∷ []) $ join ! $
    -- [what is ensured; the entry; the tokens]
    nothing ! $ nothing ! $ fjoin ! $ nothing ! $ fjoin ! $ keep ! (3 ∷ 0 ∷ 2 ∷ 1 ∷ []) $
    by ! (leaves 𝓛 En hs c (At vss) v₂ o (tt, (tt, tt)) (tt, (tt, tt)))))))))))))))))))))
