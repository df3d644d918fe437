-- `fill` writes a pair and its number into the room of a block.
use Rattle.hashlink_nodes.proofs.Names
use Names.{word_had, handle_tells, ◌≡◌, ◌+◌, ◌∙◌, ◌^◌, ◌<◌, List, [], ◌∷◌, ◌++◌, refl, sym, ap, Some, None}
use Names.{IsSome, lookup, full_share, Ty, a_type, w64, inst_fn, Val, vint, vptr, vunit, SProp, id⊢, ftrue}
use Names.{froom, flft, WpFn, ‵, raw, ◌⊛◌, at_ret, ◌$◌, ◌∵◌, !, qed, by, move, keep, drop, split, split3}
use Names.{group, fsplit, fsplit3, fjoin, fjoin3, rewrite, use1, use2, feq_i, feq_l, stop, fld, of_opd, addr}
use Names.{store, init, assigns, assigns_last, first, blocks, exec, returns, enter, alloc_all, pass_all}
use Names.{free_all, look_at, get, get_in, through, sets, is, env, sub, whole, fact, ◌⊑◌, tables, part_in}
use Names.{usize, no, yes, lone, part_at, uint_in, RattleType, owns, Ptr, ptr_val, types_at, plain, param}
use Names.{layouts, param_laws, nothing, heard, opens, closes, Stays, stay_dropped, stay_ref, walk_of}
use Names.{Goes-dropped, Goes-ref, after, word, word-Good, proved_at, leaves, flt_l, unit_lit, same_node}
use Names.{alter, entry_in, with_entry, blocks_own, block_owns, pair_offset, number_offset, Arena, arena_row}
use Rattle.hashlink_nodes.proofs.ArenaSteps.{fits_word, Nd, no_box, as_handle, args_are, states}
use Rattle.hashlink_nodes.proofs.ArenaBlocks.{found, block_out, blocks_glue, small_shown}
use Rattle.hashlink_nodes.specs.contracts.arena.Arena.fill as F
use Rattle.hashlink_nodes.proofs.arena.Arena.fill.Statement.{statement}
use Rattle.hashlink_nodes.proofs.arena.Arena.fill.Code as code

pub fill_spec : {M : Type 1} → statement M
fill_spec 𝓤 𝓛 𝓜 𝓡 wired T L =
    let H = 𝓛.H in let 𝓣 = tables 𝓤 H 𝓜 𝓡 𝓡.env in
    let R : RattleType = param 0 T in let En = F.ended T in let c = F.clauses T 𝓛 𝓜.mem 𝓡.returns in
    let inst = layouts (a_type ∷ []) (T, tt) in
    let fn = inst_fn inst code.function in let Ar : RattleType = arena_row R in
    let hs : Stays En.signature.params En.kept
    = (
      stay_ref (0 ∷ []) tt (plain (λ _. Ar)),
      (stay_dropped _ yes, (stay_dropped _ yes, (stay_dropped _ no, tt))),
    ) in
    let node_goes = Goes-dropped 𝓛 2 (plain (λ _. Nd)) yes (λ κs x f. refl) in
    let number_goes = Goes-dropped 𝓛 2 (plain (λ _. usize)) yes (λ κs x f. refl) in
    let pair_goes = Goes-dropped 𝓛 2 (plain (λ _. R)) no (λ κs x f. refl) in
    proved_at 𝓛 En hs c 𝓜 𝓡 (Goes-ref 𝓛 2 0 tt (plain (λ _. Ar)), (node_goes, (number_goes, (pair_goes, tt))))
    (F.Key.name inst) fn (code.unfolded 𝓤 H 𝓜 𝓡 wired (T, tt)) (λ z are.
    let κs = z.0.0 in let qs = z.0.1 in
    let Post : Val → SProp 𝓤 = (walk_of 𝓛 En hs c).post z in
    let Run : List Val → SProp 𝓤 = λ ws. WpFn 𝓤 H 𝓣.C 𝓣.Λ fn ws Post in
    let a = z.0.3.0.now in
    let rb = z.0.3.0.ref_ptr.0 in let ro = z.0.3.0.ref_ptr.1 in let n = z.0.3.1.0 in
    let number = z.0.3.1.1.0 in let pair = z.0.3.1.1.1.0 in
    let toks = ‵ (flft κs.0 qs.0) ⊛ ‵ (flft κs.1.0 qs.1.0) ⊛ ‵ ftrue in
    qed 𝓛 ((toks ⊛ ‵ (owns (types_at En.signature.params κs) z.0.3 z.0.4)) ∷ raw
    ((c κs z.0.3).requires z.1) ∷ []) ∵
    split ! $ move ! (2 ∷ []) $
    use1 𝓛 (raw (fact 𝓤 (κs.1.0 ⊑ T.lives)) ⊛ raw (fact 𝓤 (IsSome (lookup (same_node n) a.blocks)))
    ⊛ raw (fact 𝓤 (entry_in (lookup (same_node n) a.blocks) ≡ None)) ⊛ raw (fact 𝓤 (number < 2 ^ 48)))
    (id⊢ 𝓤 _) $ split ! $ drop ! $ split3 ! $ heard ! _ (λ there. heard ! _ (λ lacks. heard ! _ (λ small.
    let k = (found _ there).0 in let is_k = (found _ there).1 in
    let is_e : k.entry ≡ None = ap entry_in (sym is_k) ∙ lacks in
    let filled = with_entry (Some (number, pair)) in
    let new : Arena T.Denot = record { mark = a.mark; blocks = alter (same_node n) filled a.blocks } in
    move ! (1 ∷ []) $ fsplit ! $ fsplit3 ! $ feq_l !
    (λ e0. move ! (2 ∷ []) $ fsplit ! $ word_had no_box [] n.at ! z.0.4.1.0
    (λ e1. fsplit ! $ fsplit ! $ feq_l ! (λ e2. flt_l ! (λ fits.
    fsplit ! $ handle_tells (as_handle R (param_laws 0 T L)) ! pair z.0.4.1.1.1.0 (λ v e3 good.
    -- [what the pair owns; nothing; obs; the borrow; the tokens]
    move ! (1 ∷ []) $ drop ! $ move ! (3 ∷ []) $ split3 ! $
    args_are ! (λ (us : List Val × List Val × List Val × List Val). Run
    (us.0 ++ (us.1 ++ (us.2 ++ (us.3 ++ []))))) (λ j. (sym e0 j, sym e1 j, sym e2 j, sym e3 j)) $
    enter ! 𝓣.C 𝓣.Λ fn (vptr rb ro ∷ word n.at ∷ vint w64 number ∷ v ∷ []) Post $ alloc_all !
    (λ l. pass_all ! refl ((tt, tt), (word-Good [] n.at, ((fits_word fits), (good, tt)))) $
    let Ev = env fn.locals l in
    move ! (4 ∷ 5 ∷ 0 ∷ []) $ opens ! tt Ar {h = a} rb ro
    (λ vs. move ! (1 ∷ []) $ fsplit ! $ move ! (1 ∷ []) $
    block_out R ! n a.blocks k None is_k is_e (λ b o e.
    let τ : Ty = lone R.mir in let at = o + pair_offset R in let no = o + number_offset R in
    move ! (1 ∷ []) $ use1 𝓛 (‵ (froom τ b at)) (𝓛.laws.raw-room τ b at) $ move ! (1 ∷ []) $
    -- [the number; room for the pair; the links and the deed; the others; the mark; its cell; the open
    -- borrow;
    -- obs; auth; a token; nothing; what the pair owns]
    sets ! (is ! (of_opd ! (get_in ! (fld ! refl (stop !)) (sub ! 0 refl (whole !)))) (ap ptr_val e)) refl
    (tt, tt) $
    first ! $ blocks ! $ sets ! (addr ! (through ! refl (fld ! refl (stop !)))) refl (tt, tt) $
    assigns ! (of_opd ! (get ! refl)) (through ! refl (stop !)) (store ! 0 refl (fits_word fits)) $
    sets ! (addr ! (through ! refl (fld ! refl (stop !)))) refl (tt, tt) $
    sets ! (of_opd ! (get ! refl)) refl good $
    assigns_last ! (of_opd ! (get ! refl)) (through ! refl (stop !)) (init ! 1 refl good) $
    exec ! 𝓣.C 𝓣.Λ Ev (after 2 fn.body) (at_ret Ev Post) $ sets ! (of_opd ! (unit_lit !)) refl (tt, tt) $
    use1 𝓛 (‵ (part_at usize full_share number b no)) (uint_in 𝓛 full_share w64 number b no) $
    small_shown R ! (Some (number, pair)) small $ fjoin ! $
    move ! (1 ∷ 11 ∷ []) $ use2 𝓛 (‵ (part_at R full_share pair b at))
    (part_in 𝓛 R refl full_share pair b at v) $
    fjoin3 ! $ rewrite ! 0 (λ (p : Ptr). ‵ (block_owns R p (filled k))) (sym e) refl $
    use2 𝓛 (‵ (blocks_own R (alter (same_node n) filled a.blocks)))
    (blocks_glue R 𝓛 n a.blocks k filled is_k) $
    move ! (1 ∷ 0 ∷ []) $ fjoin ! $ move ! (1 ∷ 0 ∷ []) $ closes ! tt Ar new vs rb ro $
    -- [obs; the borrow; its token; a token; nothing]
    states ! {φ = new.blocks ≡ alter (same_node n) filled a.blocks} refl $
    feq_i ! (List Val) (vunit ∷ []) (vunit ∷ []) refl $ move ! (4 ∷ 5 ∷ 6 ∷ []) $ group ! 3 $
    nothing ! $ nothing ! $ fjoin ! $ nothing ! $ fjoin ! $ nothing ! $ fjoin ! $ move ! (4 ∷ 5 ∷ []) $
    feq_i ! (List Val) z.0.4.0 (vptr rb ro ∷ []) e0 $ fjoin3 ! $ fjoin ! $
    returns ! (look_at ! 0 refl) $ free_all ! refl $ keep ! (1 ∷ 0 ∷ 2 ∷ 3 ∷ []) $ by !
    (leaves 𝓛 En hs c z vunit tt (new, (tt, (tt, (tt, tt)))) (tt, (tt, (tt, (tt, tt)))))))))))))))))
