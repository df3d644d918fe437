-- `keep` adds a block to those that the arena owns. Its address differs from theirs, since it is owned
-- besides them.
use Rattle.hashlink_nodes.proofs.Names
use Names.{word_made, handle_tells, ◌≡◌, ◌+◌, ◌^◌, List, [], ◌∷◌, ◌++◌, refl, sym, subst, Option, None}
use Names.{lookup, full_share, lit<, Ty, a_type, w64, inst_fn, Val, vptr, SProp, ftrue, froom, flft, WpFn, ‵}
use Names.{raw, ◌⊛◌, at_ret, ◌$◌, ◌∵◌, !, qed, by, move, keep, drop, split, split3, join, group, fsplit}
use Names.{fsplit3, fjoin, fjoin3, use1, use2, feq_i, feq_l, stop, fld, of_opd, addr, init, assigns}
use Names.{assigns_last, first, blocks, exec, and_then, no_more, returns, enter, alloc_all, pass_all}
use Names.{free_all, look_at, get, get_in, through, sets, env, sub, whole, agg, tables, part_in, usize, no}
use Names.{yes, lone, part_at, uint_in, RattleType, owns, block_ptr, types_at, plain, param, layouts, nothing}
use Names.{opens, closes, Stays, stay_dropped, stay_ref, walk_of, Goes-dropped, Goes-ref, Goes-blank, after}
use Names.{word, word-Good, proved_at, leaves, same_node, Kept, kept, Links, number_offset, links_offset}
use Names.{Arena, Node, arena_row, IsNone}
use Rattle.hashlink_nodes.proofs.ArenaSteps.{fits_word, as_handle, no_entry, no_box, args_are, states}
use Rattle.hashlink_nodes.proofs.ArenaBlocks.{small_shown, apart_from, knows}
use Rattle.hashlink_nodes.proofs.{ArenaSharing.LL, arena.Arena.keep.Statement.statement}
use Rattle.hashlink_nodes.proofs.VacantSteps.{both, Vacant, vacant_good, vacant_out}
use Rattle.hashlink_nodes.specs.contracts.arena.Arena.keep as F
use Rattle.hashlink_nodes.proofs.arena.Arena.keep.Code as code

pub keep_spec : {M : Type 1} → statement M
keep_spec 𝓤 𝓛 𝓜 𝓡 wired T L =
    let H = 𝓛.H in let 𝓣 = tables 𝓤 H 𝓜 𝓡 𝓡.env in
    let R : RattleType = param 0 T in let En = F.ended T in let c = F.clauses T 𝓛 𝓜.mem 𝓡.returns in
    let inst = layouts (a_type ∷ []) (T, tt) in
    let fn = inst_fn inst code.function in let Ar : RattleType = arena_row R in
    let Vc : RattleType = Vacant T in
    let hs : Stays En.signature.params En.kept
    = (stay_ref (0 ∷ []) tt (plain (λ _. Ar)), (stay_dropped _ no, (stay_dropped _ yes, tt))) in
    let vacant_goes = Goes-blank 𝓛 2 (plain (λ _. Vc)) no (λ κs x f. tt) in
    let links_go = Goes-dropped 𝓛 2 (plain (λ _. Links)) yes (λ κs x f. refl) in
    proved_at 𝓛 En hs c 𝓜 𝓡 (Goes-ref 𝓛 2 0 tt (plain (λ _. Ar)), (vacant_goes, (links_go, tt)))
    (F.Key.name inst) fn (code.unfolded 𝓤 H 𝓜 𝓡 wired (T, tt)) (λ z are.
    let κs = z.0.0 in let qs = z.0.1 in
    let Post : Val → SProp 𝓤 = (walk_of 𝓛 En hs c).post z in
    let Run : List Val → SProp 𝓤 = λ ws. WpFn 𝓤 H 𝓣.C 𝓣.Λ fn ws Post in
    let a = z.0.3.0.now in let rb = z.0.3.0.ref_ptr.0 in let ro = z.0.3.0.ref_ptr.1 in let d = z.0.3.1.0 in
    let links = z.0.3.1.1.0 in
    let toks = ‵ (flft κs.0 qs.0) ⊛ ‵ (flft κs.1.0 qs.1.0) ⊛ ‵ ftrue in
    qed 𝓛 ((toks ⊛ ‵ (owns (types_at En.signature.params κs) z.0.3 z.0.4)) ∷ raw
    ((c κs z.0.3).requires z.1) ∷ []) ∵
    split ! $ move ! (2 ∷ []) $ drop ! $
    move ! (1 ∷ []) $ fsplit ! $ fsplit3 ! $ feq_l !
    (λ e0. move ! (2 ∷ []) $ fsplit ! $ vacant_out T ! d z.0.4.1.0 (λ b o h ws fits.
    move ! (2 ∷ []) $ fsplit ! $ handle_tells (as_handle Links LL) ! links z.0.4.1.1.0 (λ w e2 good.
    let n : Node = record { at = block_ptr b o } in let bare_block : Kept T.Denot = kept links None in
    let new : Arena T.Denot = record { mark = a.mark; blocks = (n, bare_block) ∷ a.blocks } in
    -- [what the links own; nothing; the room; the deed; obs; the borrow; the tokens]
    move ! (1 ∷ []) $ drop ! $ move ! (5 ∷ []) $ split3 ! $
    args_are ! (λ (us : List Val × List Val × List Val). Run (us.0 ++ (us.1 ++ (us.2 ++ []))))
    (λ j. (sym e0 j, sym ws j, sym e2 j)) $
    enter ! 𝓣.C 𝓣.Λ fn (vptr rb ro ∷ both (vptr b o) h ∷ w ∷ []) Post $ alloc_all !
    (λ l. pass_all ! refl ((tt, tt), (vacant_good b o h fits, (good, tt))) $
    let Ev = env fn.locals l in
    let τ : Ty = lone Links.mir in let at = o + links_offset R in let no = o + number_offset R in
    -- [a token; the others; nothing; what the links own; the room; the deed; obs; the borrow]
    move ! (4 ∷ 5 ∷ []) $ fsplit3 ! $ move ! (2 ∷ []) $
    use1 𝓛 (‵ (froom τ b at)) (𝓛.laws.raw-room τ b at) $
    -- [room for the links, for the pair, for the number; the deed; a token; the others; nothing; what the
    -- links
    -- own; obs; the borrow]
    sets ! (of_opd ! (get_in ! (fld ! refl (stop !)) (sub ! 0 refl (whole !)))) refl (tt, tt) $
    first ! $ blocks ! $ sets ! (addr ! (through ! refl (fld ! refl (stop !)))) refl (tt, tt) $
    assigns ! (of_opd ! (no_entry !)) (through ! refl (stop !)) (init ! 2 refl (fits_word (lit< tt))) $
    sets ! (addr ! (through ! refl (fld ! refl (stop !)))) refl (tt, tt) $
    sets ! (of_opd ! (get ! refl)) refl good $
    assigns_last ! (of_opd ! (get ! refl)) (through ! refl (stop !)) (init ! 0 refl good) $
    exec ! 𝓣.C 𝓣.Λ Ev (after 2 fn.body) (at_ret Ev Post) $ sets ! (of_opd ! (get ! refl)) refl (tt, tt) $
    sets ! (agg ! (and_then ! (get ! refl) (no_more !))) refl (word-Good [] (block_ptr b o)) $
    move ! (0 ∷ 7 ∷ []) $ use2 𝓛 (‵ (part_at Links full_share links b at))
    (part_in 𝓛 Links refl full_share links b at w) $
    move ! (2 ∷ []) $ use1 𝓛 (‵ (part_at usize full_share (2 ^ 48) b no)) (uint_in 𝓛 full_share w64
    (2 ^ 48) b no) $
    small_shown R ! None tt $ fjoin ! $ move ! (1 ∷ 3 ∷ []) $ fjoin ! $ move ! (2 ∷ 1 ∷ 0 ∷ []) $ fjoin3 ! $
    -- [the block; a token; the others; nothing; obs; the borrow]
    move ! (4 ∷ 5 ∷ 1 ∷ 2 ∷ 3 ∷ 0 ∷ []) $ opens ! tt Ar {h = a} rb ro
    (λ vs. move ! (1 ∷ []) $ fsplit ! $ move ! (8 ∷ 1 ∷ []) $
    knows ! (lookup (same_node n) a.blocks ≡ None) (apart_from R 𝓛 𝓜 n bare_block a.blocks)
    (λ free. fjoin ! $ move ! (1 ∷ 0 ∷ []) $ fjoin ! $ move ! (1 ∷ 0 ∷ []) $ closes ! tt Ar new vs rb ro $
    -- [obs; the borrow; the tokens]
    let P : Option (Kept T.Denot) → Type 0 = λ s. IsNone s in
    states ! (subst P (sym free) refl) $ states ! {φ = new.blocks ≡ (n, bare_block) ∷ a.blocks} refl $ join
    ! $
    word_made no_box [] (block_ptr b o) ! $ move ! (4 ∷ 5 ∷ 6 ∷ []) $ group ! 3 $
    nothing ! $ nothing ! $ fjoin ! $ nothing ! $ fjoin ! $ move ! (4 ∷ 5 ∷ []) $ feq_i ! (List Val) z.0.4.0
    (vptr rb ro ∷ []) e0 $ fjoin3 !
    $ fjoin ! $
    returns ! (look_at ! 0 refl) $ free_all ! refl $ keep ! (1 ∷ 0 ∷ 2 ∷ 3 ∷ []) $ by !
    (leaves 𝓛 En hs c z (word (block_ptr b o)) n (new, (tt, (tt, tt))) (tt, (tt, (tt, tt)))))))))))
