-- An arena with no block owns nothing.
use Rattle.hashlink_nodes.proofs.Names.{◌≡◌, [], ◌∷◌, refl, a_type, inst_fn, SProp, emp, ftrue, flft, Val, ‵}
use Rattle.hashlink_nodes.proofs.Names.{raw, ◌⊛◌, ◌$◌, ◌∵◌, !, qed, by, move, keep, drop, split, use0, fjoin}
use Rattle.hashlink_nodes.proofs.Names.{no_more, and_then, returns, enter, alloc_all, pass_all, free_all}
use Rattle.hashlink_nodes.proofs.Names.{look_at, get, sets, agg, fact, fact_i, tables, RattleType, param}
use Rattle.hashlink_nodes.proofs.Names.{layouts, nothing, walk_of, proved_at, leaves}
use Rattle.hashlink_nodes.{proofs.ArenaSteps.{Mark, mark, mark_made}, specs.declared.arena.Arena.Arena}
use Rattle.hashlink_nodes.specs.contracts.arena.Arena.new as F
use Rattle.hashlink_nodes.proofs.arena.Arena.new.Statement.{statement}
use Rattle.hashlink_nodes.proofs.arena.Arena.new.Code as code

pub new_spec : {M : Type 1} → statement M
new_spec 𝓤 𝓛 𝓜 𝓡 wired T L =
    let H = 𝓛.H in let 𝓣 = tables 𝓤 H 𝓜 𝓡 𝓡.env in
    let R : RattleType = param 0 T in let En = F.ended T in let c = F.clauses T 𝓛 𝓜.mem 𝓡.returns in
    let inst = layouts (a_type ∷ []) (T, tt) in let fn = inst_fn inst code.function in
    proved_at 𝓛 En tt c 𝓜 𝓡 tt (F.Key.name inst) fn (code.unfolded 𝓤 H 𝓜 𝓡 wired (T, tt)) (λ z are.
    let κs = z.0.0 in let qs = z.0.1 in let Post : Val → SProp 𝓤 = (walk_of 𝓛 En tt c).post z in
    let made : Arena T.Denot = record { mark = record {}; blocks = [] } in
    qed 𝓛 (((‵ (flft κs.0 qs.0) ⊛ ‵ ftrue) ⊛ ‵ ftrue) ∷ raw ((c κs z.0.3).requires z.1) ∷ []) ∵
    split ! $ move !
    (1 ∷ 2 ∷ []) $ drop ! $ drop ! $
    enter ! 𝓣.C 𝓣.Λ fn [] Post $ alloc_all ! (λ l. pass_all ! refl tt $
    sets ! (agg ! (no_more !)) refl (tt, tt) $ sets ! (agg ! (and_then ! (get ! refl) (no_more !))) refl
    (tt, (tt, tt)) $
    nothing ! $ use0 𝓛 (‵ ((Mark R).own_val (tt, tt) (mark ∷ []))) (mark_made R 𝓛) $ fjoin ! $
    use0 𝓛 (raw (fact 𝓤 (made.blocks ≡ []))) (fact_i 𝓤 (made.blocks ≡ []) (emp 𝓤) refl) $ nothing ! $
    returns ! (look_at ! 0 refl) $ free_all ! refl $ keep ! (3 ∷ 0 ∷ 2 ∷ 1 ∷ []) $ by !
    (leaves 𝓛 En tt c z mark made tt tt)))
