-- `release` takes a block from those that the arena owns.
use Rattle.hashlink_nodes.proofs.Names
use Names.{word_had, handle_tells, ◌≡◌, ◌+◌, ◌∙◌, ◌^◌, List, [], ◌∷◌, ◌++◌, refl, sym, ap, None, IsSome}
use Names.{lookup, remove_entry, full_share, Ty, a_type, ty_int, w64, bare, inst_fn, Val, vint, vptr, SProp}
use Names.{id⊢, ftrue, fat, froom, flft, WpFn, ‵, raw, ◌⊛◌, some, ◌$◌, ◌∵◌, !, qed, by, move, keep, drop}
use Names.{split, split3, group, fsplit, fsplit3, fjoin, fjoin3, pick, use1, feq_i, feq_l, stop, fld, of_opd}
use Names.{and_then, no_more, returns, enter, alloc_all, pass_all, free_all, look_at, get, get_in, sets, is}
use Names.{sub, whole, agg, fact, ◌⊑◌, tables, part_out, yes, lone, RattleType, owns, block_ptr, ptr_val}
use Names.{types_at, plain, param, layouts, nothing, heard, opens, closes, Stays, stay_dropped, stay_ref}
use Names.{walk_of, Goes-dropped, Goes-ref, word, word-Good, proved_at, leaves, same_node, entry_in, Links}
use Names.{number_offset, links_offset, Arena, arena_row}
use Rattle.hashlink_nodes.proofs.ArenaSteps.{Nd, no_box, args_are, states, Heap, heap_handle}
use Rattle.hashlink_nodes.proofs.ArenaBlocks.{found, block_out}
use Rattle.hashlink_nodes.proofs.VacantSteps.{both, Vacant, vacant_good, vacant_in}
use Rattle.hashlink_nodes.specs.contracts.arena.Arena.release as F
use Rattle.hashlink_nodes.proofs.arena.Arena.release.Statement.{statement}
use Rattle.hashlink_nodes.proofs.arena.Arena.release.Code as code

pub release_spec : {M : Type 1} → statement M
release_spec 𝓤 𝓛 𝓜 𝓡 wired T L =
    let H = 𝓛.H in let 𝓣 = tables 𝓤 H 𝓜 𝓡 𝓡.env in
    let R : RattleType = param 0 T in let En = F.ended T in let c = F.clauses T 𝓛 𝓜.mem 𝓡.returns in
    let inst = layouts (a_type ∷ []) (T, tt) in
    let fn = inst_fn inst code.function in let Ar : RattleType = arena_row R in
    let hs : Stays En.signature.params En.kept
    = (stay_ref (0 ∷ []) tt (plain (λ _. Ar)), (stay_dropped _ yes, (stay_dropped _ yes, tt))) in
    let node_goes = Goes-dropped 𝓛 2 (plain (λ _. Nd)) yes (λ κs x f. refl) in
    let heap_goes = Goes-dropped 𝓛 2 (plain (λ _. Heap)) yes (λ κs x f. refl) in
    proved_at 𝓛 En hs c 𝓜 𝓡 (Goes-ref 𝓛 2 0 tt (plain (λ _. Ar)), (node_goes, (heap_goes, tt)))
    (F.Key.name inst) fn (code.unfolded 𝓤 H 𝓜 𝓡 wired (T, tt)) (λ z are.
    let κs = z.0.0 in let qs = z.0.1 in
    let Post : Val → SProp 𝓤 = (walk_of 𝓛 En hs c).post z in
    let Run : List Val → SProp 𝓤 = λ ws. WpFn 𝓤 H 𝓣.C 𝓣.Λ fn ws Post in
    let a = z.0.3.0.now in
    let rb = z.0.3.0.ref_ptr.0 in let ro = z.0.3.0.ref_ptr.1 in let n =
    z.0.3.1.0 in let alloc = z.0.3.1.1.0 in
    let toks = ‵ (flft κs.0 qs.0) ⊛ ‵ (flft κs.1.0 qs.1.0) ⊛ ‵ ftrue in
    qed 𝓛 ((toks ⊛ ‵ (owns (types_at En.signature.params κs) z.0.3 z.0.4)) ∷ raw
    ((c κs z.0.3).requires z.1) ∷ []) ∵
    split ! $ move ! (2 ∷ []) $
    use1 𝓛 (raw (fact 𝓤 (κs.1.0 ⊑ T.lives)) ⊛ raw (fact 𝓤 (IsSome (lookup (same_node n) a.blocks)))
    ⊛ raw (fact 𝓤 (entry_in (lookup (same_node n) a.blocks) ≡ None)))
    (id⊢ 𝓤 _) $ split ! $ drop ! $ split ! $ heard ! _ (λ there. heard ! _ (λ lacks.
    let k = (found _ there).0 in let is_k = (found _ there).1 in
    let is_e : k.entry ≡ None = ap entry_in (sym is_k) ∙ lacks in
    let new : Arena T.Denot = record { mark = a.mark; blocks = remove_entry (same_node n) a.blocks } in
    move ! (1 ∷ []) $ fsplit ! $ fsplit3 ! $ feq_l !
    (λ e0. move ! (2 ∷ []) $ fsplit ! $ word_had no_box [] n.at ! z.0.4.1.0
    (λ e1. fsplit ! $ handle_tells heap_handle ! alloc z.0.4.1.1.0 (λ h e2 fits.
    -- [the handle; nothing; obs; the borrow; the tokens]
    move ! (1 ∷ []) $ drop ! $ move ! (3 ∷ []) $ split3 ! $
    args_are ! (λ (us : List Val × List Val × List Val). Run (us.0 ++ (us.1 ++ (us.2 ++ []))))
    (λ j. (sym e0 j, sym e1 j, sym e2 j)) $
    enter ! 𝓣.C 𝓣.Λ fn (vptr rb ro ∷ word n.at ∷ h ∷ []) Post $ alloc_all !
    (λ l. pass_all ! refl ((tt, tt), (word-Good [] n.at, (fits, tt))) $
    move ! (4 ∷ 5 ∷ 0 ∷ []) $ opens ! tt Ar {h = a} rb ro
    (λ vs. move ! (1 ∷ []) $ fsplit ! $ move ! (1 ∷ []) $
    block_out R ! n a.blocks k None is_k is_e (λ b o e.
    let τ : Ty = lone Links.mir in let at = o + links_offset R in let no = o + number_offset R in
    let out : (Vacant T).Denot = record { ptr = block_ptr b o; alloc = alloc } in
    use1 𝓛 (‵ (froom (ty_int w64) b no)) (𝓛.laws.at_room (ty_int w64) b no (vint w64 (2 ^ 48))) $
    move ! (2 ∷ []) $ fsplit ! $
    use1 𝓛 (some (λ (v : Val). ‵ (fat full_share τ b at v) ⊛ ‵ (Links.own_val k.links (v ∷ []))))
    (part_out 𝓛 Links refl full_share k.links b at) $ pick ! (λ v. split ! $ move ! (1 ∷ []) $ drop ! $
    use1 𝓛 (‵ (froom τ b at)) (𝓛.laws.at_room τ b at v) $
    use1 𝓛 (‵ (froom (bare τ) b at)) (𝓛.laws.room-raw τ b at) $
    -- [room for the links; the deed; room for the number, for the pair]
    move ! (3 ∷ 2 ∷ 0 ∷ []) $ fjoin3 ! $
    -- [the room; the deed; the others; the mark; its cell; the open borrow; obs; auth; a token; nothing; the
    -- handle]
    sets ! (is ! (of_opd ! (get_in ! (fld ! refl (stop !)) (sub ! 0 refl (whole !)))) (ap ptr_val e)) refl
    (tt, tt) $
    sets ! (agg ! (and_then ! (get ! refl) (and_then ! (get ! refl) (no_more !)))) refl
    (vacant_good b o h fits) $
    move ! (3 ∷ 2 ∷ []) $ fjoin ! $ move ! (3 ∷ 0 ∷ 4 ∷ 5 ∷ 6 ∷ []) $
    closes ! tt Ar new vs rb
    ro $
    -- [obs; the borrow; its token; the room; the deed; a token; nothing; the handle]
    move ! (3 ∷ 4 ∷ 7 ∷ []) $ vacant_in T ! b o h alloc $
    states ! {φ = new.blocks ≡ remove_entry (same_node n) a.blocks} refl $ move ! (1 ∷ 0 ∷ []) $
    move ! (4 ∷ 5 ∷ 6 ∷ []) $ group ! 3 $
    nothing ! $ nothing ! $ fjoin ! $ nothing ! $ fjoin ! $ move ! (4 ∷ 5 ∷ []) $ feq_i ! (List Val) z.0.4.0
    (vptr rb ro ∷ []) e0 $ fjoin3 ! $ fjoin ! $
    returns ! (look_at ! 0 refl) $ free_all ! refl $ keep ! (1 ∷ 0 ∷ 2 ∷ 3 ∷ []) $ by !
    (leaves 𝓛 En hs c z (both (vptr b o) h) out (new, (tt, (tt, tt))) (tt, (tt, (tt, tt))))))))))))))
