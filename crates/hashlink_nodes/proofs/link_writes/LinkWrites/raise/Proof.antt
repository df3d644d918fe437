-- The count grows by one, and no memory changes.
use Rattle.hashlink_nodes.proofs.Names
use Names.{◌≡◌, ◌+◌, List, [], ◌∷◌, ◌++◌, refl, sym, subst, Val, vptr, vunit, SProp, ent, emp, id⊢, ftrue}
use Names.{flft, WpFn, ‵, raw, ◌⊛◌, ◌$◌, ◌∵◌, !, qed, by, move, keep, drop, split, join, fsplit, fsplit3}
use Names.{fjoin, fjoin3, use0, suffices, feq_i, feq_l, of_opd, unit_lit, returns, enter, alloc_all, pass_all}
use Names.{free_all, look_at, sets, fact, fact_i, tables, owns, types_at, plain, nothing, opens, closes}
use Names.{Stays, stay_ref, walk_of, Goes-ref, proved_at, leaves, LinkWrites}
use Rattle.hashlink_nodes.specs.contracts.link_writes.LinkWrites.{the_row}
use Rattle.hashlink_nodes.specs.contracts.link_writes.LinkWrites.raise as F
use Rattle.hashlink_nodes.proofs.link_writes.LinkWrites.raise.Statement.{statement}
use Rattle.hashlink_nodes.proofs.link_writes.LinkWrites.raise.Code as code

pub raise_spec : {M : Type 1} → statement M
raise_spec 𝓤 𝓛 𝓜 𝓡 wired =
    let H = 𝓛.H in let 𝓣 = tables 𝓤 H 𝓜 𝓡 𝓡.env in let c = F.clauses 𝓛 𝓜.mem 𝓡.returns in let fn =
    code.function in
    let hs : Stays F.ended.signature.params F.ended.kept
    = (stay_ref (0 ∷ []) tt (plain (λ _. the_row)), tt) in
    proved_at 𝓛 F.ended hs c 𝓜 𝓡 (Goes-ref 𝓛 1 0 tt (plain (λ _. the_row)), tt) F.Key.name fn
    (code.unfolded 𝓤 H 𝓜 𝓡 wired)
    (λ z are.
    let κs = z.0.0 in let qs = z.0.1 in
    let Post : Val → SProp 𝓤 = (walk_of 𝓛 F.ended hs c).post z in
    let Run : List Val → SProp 𝓤 = λ ws. WpFn 𝓤 H 𝓣.C 𝓣.Λ fn ws Post in
    let a = z.0.3.0.now in let rb = z.0.3.0.ref_ptr.0 in let ro = z.0.3.0.ref_ptr.1 in
    let new : LinkWrites = record { mark = a.mark; count = a.count + 1 } in
    qed 𝓛
    (((‵ (flft κs.0 qs.0) ⊛ ‵ ftrue) ⊛ ‵ (owns (types_at F.ended.signature.params κs) z.0.3 z.0.4))
    ∷ raw ((c κs z.0.3).requires z.1) ∷ [])
    ∵ split ! $ move ! (2 ∷ []) $ drop ! $
    move ! (1 ∷ []) $ fsplit ! $ fsplit3 ! $ feq_l !
    (λ e0. move ! (2 ∷ []) $ drop ! $ move ! (2 ∷ []) $ split ! $ move ! (2 ∷ 3 ∷ 0 ∷ []) $
    suffices ! (Run (vptr rb ro ∷ []))
    (subst (λ (us : List Val). ent 𝓤 (Run (vptr rb ro ∷ [])) (Run (us ++ []))) (sym e0) (id⊢ 𝓤 _)) $
    enter ! 𝓣.C 𝓣.Λ fn (vptr rb ro ∷ []) Post $ alloc_all ! (λ l. pass_all ! refl ((tt, tt), tt) $
    opens ! tt the_row {h = a} rb ro (λ vs. closes ! tt the_row new vs rb ro $
    sets ! (of_opd ! (unit_lit !)) refl (tt, tt) $
    move ! (2 ∷ 3 ∷ []) $ join ! $
    use0 𝓛 (raw (fact 𝓤 (new.count ≡ a.count + 1))) (fact_i 𝓤 (new.count ≡ a.count + 1) (emp 𝓤) refl) $
    feq_i ! _ (vunit ∷ []) _ refl $
    nothing ! $ move ! (4 ∷ 5 ∷ []) $ feq_i ! (List Val) z.0.4.0 (vptr rb ro ∷ []) e0 $ fjoin3 ! $ fjoin ! $
    returns ! (look_at ! 0 refl) $ free_all ! refl $ keep ! (3 ∷ 0 ∷ 1 ∷ 2 ∷ []) $ by !
    (leaves 𝓛 F.ended hs c z vunit tt (new, tt) (tt, tt))))))
