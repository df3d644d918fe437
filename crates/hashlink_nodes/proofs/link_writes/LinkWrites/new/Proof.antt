-- A count begins at 0.
use Rattle.hashlink_nodes.proofs.Names.{◌≡◌, [], ◌∷◌, refl, SProp, emp, ftrue, Val, ‵, raw, ◌⊛◌, ◌$◌, ◌∵◌, ! }
use Rattle.hashlink_nodes.proofs.Names.{qed, by, keep, drop, split, use0, fjoin, no_more, and_then, returns}
use Rattle.hashlink_nodes.proofs.Names.{enter, alloc_all, pass_all, free_all, look_at, get, sets, agg, fact}
use Rattle.hashlink_nodes.proofs.Names.{fact_i, tables, nothing, walk_of, proved_at, leaves, LinkWrites}
use Rattle.hashlink_nodes.proofs.ArenaSteps.{Heap, Mark, mark, mark_made}
use Rattle.hashlink_nodes.specs.contracts.link_writes.LinkWrites.new as F
use Rattle.hashlink_nodes.proofs.link_writes.LinkWrites.new.Statement.{statement}
use Rattle.hashlink_nodes.proofs.link_writes.LinkWrites.new.Code as code

pub new_spec : {M : Type 1} → statement M
new_spec 𝓤 𝓛 𝓜 𝓡 wired =
    let H = 𝓛.H in let 𝓣 = tables 𝓤 H 𝓜 𝓡 𝓡.env in let c = F.clauses 𝓛 𝓜.mem 𝓡.returns in
    let fn = code.function in
    proved_at 𝓛 F.ended tt c 𝓜 𝓡 tt F.Key.name fn (code.unfolded 𝓤 H 𝓜 𝓡 wired) (λ z are.
    let Post : Val → SProp 𝓤 = (walk_of 𝓛 F.ended tt c).post z in
    let made : LinkWrites = record { mark = record {}; count = 0 } in
    qed 𝓛 ((‵ ftrue ⊛ ‵ ftrue) ∷ raw ((c z.0.0 z.0.3).requires z.1) ∷ []) ∵ split ! $
    drop ! $ drop ! $ drop ! $
    enter ! 𝓣.C 𝓣.Λ fn [] Post $ alloc_all ! (λ l. pass_all ! refl tt $
    sets ! (agg ! (no_more !)) refl (tt, tt) $ sets ! (agg ! (and_then ! (get ! refl) (no_more !))) refl
    (tt, (tt, tt)) $
    nothing ! $ use0 𝓛 (‵ ((Mark Heap).own_val (tt, tt) (mark ∷ []))) (mark_made Heap 𝓛) $ fjoin ! $
    use0 𝓛 (raw (fact 𝓤 (made.count ≡ 0))) (fact_i 𝓤 (made.count ≡ 0) (emp 𝓤) refl) $ nothing ! $ nothing ! $
    returns ! (look_at ! 0 refl) $ free_all ! refl $ keep ! (0 ∷ 1 ∷ 3 ∷ 2 ∷ []) $ by !
    (leaves 𝓛 F.ended tt c z mark made tt tt)))
