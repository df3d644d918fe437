-- The blocks that an arena owns are owned by two.
use Rattle.hashlink_nodes.proofs.Names
use Names.{◌≡◌, List, [], ◌∷◌, ◌++◌, refl, sym, subst, a_type, inst_fn, Val, vptr, SProp, ent, id⊢, ftrue}
use Names.{flft}
use Names.{WpFn, ‵, raw, ◌⊛◌, ◌$◌, ◌∵◌, !, qed, by, move, keep, drop, split, split3, join, group, fsplit}
use Names.{fsplit3}
use Names.{fjoin, fjoin3, use0, use1, suffices, feq_i, feq_l, and_then, no_more, returns, enter, alloc_all}
use Names.{pass_all, free_all, look_at, get, sets, agg, fact, ◌⊑◌, tables, RattleType, owns, types_at, plain}
use Names.{param}
use Names.{layouts, nothing, heard, opens, closes, Stays, stay_ref, walk_of, Goes-ref, proved_at, leaves}
use Names.{Node}
use Names.{Arena, arena_row, blocks_own}
use Rattle.hashlink_nodes.specs.Blocks.{AreFound, blocks_of, without}
use Rattle.hashlink_nodes.proofs.{ArenaSteps.{Mark, mark, mark_made, states}, ArenaBlocks.blocks_parted}
use Rattle.hashlink_nodes.specs.contracts.arena.Arena.part as F
use Rattle.hashlink_nodes.proofs.arena.Arena.part.Statement.{statement}
use Rattle.hashlink_nodes.proofs.arena.Arena.part.Code as code

pub part_spec : {M : Type 1} → statement M
part_spec 𝓤 𝓛 𝓜 𝓡 wired T L =
    let H = 𝓛.H in let 𝓣 = tables 𝓤 H 𝓜 𝓡 𝓡.env in
    let R : RattleType = param 0 T in let En = F.ended T in let c = F.clauses T 𝓛 𝓜.mem 𝓡.returns in
    let inst = layouts (a_type ∷ []) (T, tt) in
    let fn = inst_fn inst code.function in let Ar : RattleType = arena_row R in
    let hs : Stays En.signature.params En.kept = (stay_ref (0 ∷ []) tt (plain (λ _. Ar)), tt) in
    proved_at 𝓛 En hs c 𝓜 𝓡 (Goes-ref 𝓛 2 0 tt (plain (λ _. Ar)), tt)
    (F.Key.name inst) fn (code.unfolded 𝓤 H 𝓜 𝓡 wired (T, tt)) (λ z are.
    let κs = z.0.0 in let qs = z.0.1 in let ns : List Node = z.1 in
    let Post : Val → SProp 𝓤 = (walk_of 𝓛 En hs c).post z in
    let Run : List Val → SProp 𝓤 = λ ws. WpFn 𝓤 H 𝓣.C 𝓣.Λ fn ws Post in
    let a = z.0.3.0.now in let rb = z.0.3.0.ref_ptr.0 in let ro = z.0.3.0.ref_ptr.1 in
    let new : Arena T.Denot = record { mark = a.mark; blocks = without ns a.blocks } in
    let made : Arena T.Denot = record { mark = record {}; blocks = blocks_of ns a.blocks } in
    let toks = ‵ (flft κs.0 qs.0) ⊛ ‵ (flft κs.1.0 qs.1.0) ⊛ ‵ ftrue in
    qed 𝓛 ((toks ⊛ ‵ (owns (types_at En.signature.params κs) z.0.3 z.0.4)) ∷ raw
    ((c κs z.0.3).requires z.1) ∷ []) ∵
    split ! $ move ! (2 ∷ []) $
    use1 𝓛 (raw (fact 𝓤 (κs.1.0 ⊑ T.lives)) ⊛ raw (fact 𝓤 (AreFound ns a.blocks))) (id⊢ 𝓤 _) $ split ! $
    drop ! $ heard ! _ (λ there.
    move ! (1 ∷ []) $ fsplit ! $ fsplit3 ! $ feq_l !
    (λ e0. move ! (2 ∷ []) $ drop ! $ move ! (2 ∷ []) $ split3 ! $ move ! (3 ∷ 4 ∷ 0 ∷ []) $
    suffices ! (Run (vptr rb ro ∷ []))
    (subst (λ (us : List Val). ent 𝓤 (Run (vptr rb ro ∷ [])) (Run (us ++ []))) (sym e0) (id⊢ 𝓤 _)) $
    enter ! 𝓣.C 𝓣.Λ fn (vptr rb ro ∷ []) Post $ alloc_all ! (λ l. pass_all ! refl ((tt, tt), tt) $
    opens ! tt Ar {h = a} rb ro (λ vs. move ! (1 ∷ []) $ fsplit ! $ move ! (1 ∷ []) $
    use1 𝓛 (‵ (blocks_own R made.blocks) ⊛ ‵ (blocks_own R new.blocks))
    (blocks_parted R 𝓛 ns a.blocks there) $ split ! $
    -- [the blocks taken out; the others; the mark; its cell; the open borrow; obs; auth; a token; nothing]
    move ! (2 ∷ 1 ∷ []) $ fjoin ! $ move ! (2 ∷ 0 ∷ 3 ∷ 4 ∷ 5 ∷ []) $ closes ! tt Ar new vs rb ro $
    sets ! (agg ! (no_more !)) refl (tt, tt) $ sets ! (agg ! (and_then ! (get ! refl) (no_more !))) refl
    (tt, (tt, tt)) $
    -- [obs; the borrow; its token; the blocks taken out; a token; nothing]
    move ! (3 ∷ []) $ use0 𝓛 (‵ ((Mark R).own_val (tt, tt) (mark ∷ []))) (mark_made R 𝓛) $ fjoin ! $
    states ! {φ = new.blocks ≡ without ns a.blocks} refl $
    states ! {φ = made.blocks ≡ blocks_of ns a.blocks} refl $ join ! $ move ! (1 ∷ 0 ∷ []) $
    move ! (4 ∷ 5 ∷ 6 ∷ []) $ group ! 3 $ nothing ! $ move ! (4 ∷ 5 ∷ []) $
    feq_i ! (List Val) z.0.4.0 (vptr rb ro ∷ []) e0 $ fjoin3 ! $ fjoin ! $
    returns ! (look_at ! 0 refl) $ free_all ! refl $ keep ! (1 ∷ 0 ∷ 2 ∷ 3 ∷ []) $ by !
    (leaves 𝓛 En hs c z mark made (new, tt) (tt, tt)))))))
