-- `take` moves the pair out of a block, and leaves room for one.
use Rattle.hashlink_nodes.proofs.Names
use Names.{Some, word_had, ◌≡◌, ◌+◌, ◌^◌, List, [], ◌∷◌, ◌++◌, refl, sym, ap, None, IsSome, lookup}
use Names.{full_share, lit<, Ty, a_type, w64, bare, inst_fn, Val, vptr, SProp, id⊢, ftrue, fat, froom, flft}
use Names.{WpFn, ‵, raw, ◌⊛◌, some, at_ret, ◌$◌, ◌∵◌, !, qed, by, move, keep, drop, split, split3, join}
use Names.{group, fsplit, fsplit3, fjoin, fjoin3, pick, rewrite, use1, use2, feq_i, feq_l, stop, fld, of_opd}
use Names.{addr, store, assigns, first, blocks, exec, returns, enter, alloc_all, pass_all, free_all, look_at}
use Names.{get, get_in, through, sets, sets_last, is, env, sub, whole, fact, ◌⊑◌, tables, part_out, usize}
use Names.{yes, lone, part_at, uint_in, RattleType, owns, Ptr, ptr_val, types_at, plain, param, layouts}
use Names.{nothing, heard, opens, closes, Stays, stay_dropped, stay_ref, walk_of, Goes-dropped, Goes-ref}
use Names.{after, word, word-Good, proved_at, leaves, load, look, well_typed, same_node, alter, entry_in}
use Names.{with_entry, blocks_own, block_owns, pair_offset, number_offset, Arena, arena_row}
use Rattle.hashlink_nodes.proofs.ArenaSteps.{fits_word, Nd, no_box, no_entry, args_are, states}
use Rattle.hashlink_nodes.proofs.ArenaBlocks.{found_entry, block_out, blocks_glue, small_shown}
use Rattle.hashlink_nodes.specs.contracts.arena.Arena.take as F
use Rattle.hashlink_nodes.proofs.arena.Arena.take.Statement.{statement}
use Rattle.hashlink_nodes.proofs.arena.Arena.take.Code as code

pub take_spec : {M : Type 1} → statement M
take_spec 𝓤 𝓛 𝓜 𝓡 wired T L =
    let H = 𝓛.H in let 𝓣 = tables 𝓤 H 𝓜 𝓡 𝓡.env in
    let R : RattleType = param 0 T in let En = F.ended T in let c = F.clauses T 𝓛 𝓜.mem 𝓡.returns in
    let inst = layouts (a_type ∷ []) (T, tt) in
    let fn = inst_fn inst code.function in let Ar : RattleType = arena_row R in
    let hs : Stays En.signature.params En.kept
    = (stay_ref (0 ∷ []) tt (plain (λ _. Ar)), (stay_dropped _ yes, tt)) in
    let node_goes = Goes-dropped 𝓛 2 (plain (λ _. Nd)) yes (λ κs x f. refl) in
    proved_at 𝓛 En hs c 𝓜 𝓡 (Goes-ref 𝓛 2 0 tt (plain (λ _. Ar)), (node_goes, tt))
    (F.Key.name inst) fn (code.unfolded 𝓤 H 𝓜 𝓡 wired (T, tt)) (λ z are.
    let κs = z.0.0 in let qs = z.0.1 in
    let Post : Val → SProp 𝓤 = (walk_of 𝓛 En hs c).post z in
    let Run : List Val → SProp 𝓤 = λ ws. WpFn 𝓤 H 𝓣.C 𝓣.Λ fn ws Post in
    let a = z.0.3.0.now in
    let rb = z.0.3.0.ref_ptr.0 in let ro = z.0.3.0.ref_ptr.1 in let n = z.0.3.1.0 in
    let toks = ‵ (flft κs.0 qs.0) ⊛ ‵ (flft κs.1.0 qs.1.0) ⊛ ‵ ftrue in
    qed 𝓛 ((toks ⊛ ‵ (owns (types_at En.signature.params κs) z.0.3 z.0.4)) ∷ raw
    ((c κs z.0.3).requires z.1) ∷ []) ∵
    split ! $ move ! (2 ∷ []) $
    use1 𝓛 (raw (fact 𝓤 (κs.1.0 ⊑ T.lives))
    ⊛ raw (fact 𝓤 (IsSome (entry_in (lookup (same_node n) a.blocks)))))
    (id⊢ 𝓤 _) $ split ! $ drop ! $ heard ! _ (λ held.
    let at_n = found_entry _ held in let k = at_n.0 in let entry = at_n.1 in
    let is_k = at_n.2 in let is_e = at_n.3 in
    let left = with_entry None in
    let new : Arena T.Denot = record { mark = a.mark; blocks = alter (same_node n) left a.blocks } in
    move ! (1 ∷ []) $ fsplit ! $ fsplit3 ! $ feq_l !
    (λ e0. move ! (2 ∷ []) $ fsplit ! $ word_had no_box [] n.at ! z.0.4.1.0 (λ e1. drop ! $
    -- [obs; the borrow; the tokens]
    args_are ! (λ (ws : List Val × List Val). Run (ws.0 ++ (ws.1 ++ []))) (λ j. (sym e0 j, sym e1 j)) $
    move ! (2 ∷ []) $ split3 ! $ move ! (3 ∷ 4 ∷ 0 ∷ []) $
    enter ! 𝓣.C 𝓣.Λ fn (vptr rb ro ∷ word n.at ∷ []) Post $ alloc_all !
    (λ l. pass_all ! refl ((tt, tt), (word-Good [] n.at, tt)) $ let Ev = env fn.locals l in
    opens ! tt Ar {h = a} rb ro (λ vs. move ! (1 ∷ []) $ fsplit ! $ move ! (1 ∷ []) $
    block_out R ! n a.blocks k (Some entry) is_k is_e (λ b o e.
    let τ : Ty = lone R.mir in let at = o + pair_offset R in let no = o + number_offset R in move ! (1 ∷ []) $
    use1 𝓛 (some (λ (v : Val). ‵ (fat full_share τ b at v) ⊛ ‵ (R.own_val entry.1 (v ∷ []))))
    (part_out 𝓛 R refl full_share entry.1 b at) $ pick ! (λ v. split ! $ well_typed ! (λ good.
    move ! (2 ∷ []) $
    -- [the number; the pair; what it owns; the links and the deed; the others; the mark; its cell; the open
    -- borrow; obs; auth; a token; nothing]
    sets ! (is ! (of_opd ! (get_in ! (fld ! refl (stop !)) (sub ! 0 refl (whole !)))) (ap ptr_val e)) refl
    (tt, tt) $
    first ! $ blocks ! $ sets ! (addr ! (through ! refl (fld ! refl (stop !)))) refl (tt, tt) $
    assigns ! (of_opd ! (no_entry !)) (through ! refl (stop !)) (store ! 0 refl (fits_word (lit< tt))) $
    sets ! (addr ! (through ! refl (fld ! refl (stop !)))) refl (tt, tt) $
    sets_last ! (of_opd ! (load ! (through ! refl (stop !)) (look ! 1 refl))) refl good $
    exec ! 𝓣.C 𝓣.Λ Ev (after 2 fn.body) (at_ret Ev Post) $ sets ! (of_opd ! (get ! refl)) refl good $
    use1 𝓛 (‵ (part_at usize full_share (2 ^ 48) b no)) (uint_in 𝓛 full_share w64 (2 ^ 48) b no) $
    small_shown R ! None tt $ fjoin ! $
    move ! (1 ∷ []) $ use1 𝓛 (‵ (froom τ b at)) (𝓛.laws.at_room τ b at v) $
    use1 𝓛 (‵ (froom (bare τ) b at)) (𝓛.laws.room-raw τ b at) $
    move ! (0 ∷ 1 ∷ 3 ∷ []) $ fjoin3 ! $ rewrite ! 0 (λ (p : Ptr). ‵ (block_owns R p (left k))) (sym e) refl $
    move ! (0 ∷ 2 ∷ []) $
    use2 𝓛 (‵ (blocks_own R (alter (same_node n) left a.blocks))) (blocks_glue R 𝓛 n a.blocks k left is_k) $
    move ! (2 ∷ 0 ∷ []) $ fjoin ! $ move ! (2 ∷ 0 ∷ 3 ∷ 4 ∷ 5 ∷ []) $ closes ! tt Ar new vs rb ro $
    -- [obs; the borrow; its token; what the pair owns; a token; nothing]
    states ! {φ = new.blocks ≡ alter (same_node n) left a.blocks} refl $
    states ! at_n.4 $ join ! $ move ! (4 ∷ 0 ∷ []) $ move ! (4 ∷ 5 ∷ 6 ∷ []) $ group ! 3 $
    nothing ! $ nothing ! $ fjoin ! $ move ! (4 ∷ 5 ∷ []) $
    feq_i ! (List Val) z.0.4.0 (vptr rb ro ∷ []) e0 $ fjoin3 ! $ fjoin ! $
    returns ! (look_at ! 0 refl) $ free_all ! refl $ keep ! (1 ∷ 0 ∷ 2 ∷ 3 ∷ []) $ by !
    (leaves 𝓛 En hs c z v entry.1 (new, (tt, tt)) (tt, (tt, tt))))))))))))
