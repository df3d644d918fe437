use Rattle.hashlink_set.proofs.Names.{[], ◌∷◌, ◌++◌, refl, sym, subst, AllZip, deref, AcceptsAll, SetInserts}
use Rattle.hashlink_set.proofs.{Names.{accepts_another, on_err}, OfClones.first_gave}
use Rattle.std.proofs.lemmas.List.Elements.{AllZip-push}
use Rattle.hashlink_map.proofs.InTurn.{mapped_another}
use Rattle.std.proofs.iter.Next as it
use Rattle.hashlink_set.proofs.building.of_clones.Goals as goal

pub loop-element-init : goal.loop-element-init
loop-element-init g c = it.begun c.requires.may c.requires.ends ([], tt, refl)

pub loop-element-preserved : goal.loop-element-preserved
loop-element-preserved g c =
    let inv = c.loop-element.invariant in let h = inv.holds in
    let x = c.in-Some.element in let new = c.in_ok-insert_clone.ensures in
    it.again inv x c.in-Some.is (c.next.ensures.steps, c.next.ensures.goes) (
      h.0 ++ new.0 ∷ [],
      subst (λ l. AllZip g.T.Clone.is_clone l (h.0 ++ new.0 ∷ [])) (sym (mapped_another deref inv.seen x))
          (AllZip-push g.T.Clone.is_clone _ _ _ _ h.1 new.2),
      accepts_another (SetInserts g.T.PartialEq.eq) c.with_hasher-set.result c.loop-element.set
          c.insert_clone.new.self h.0 new.0 new.1 h.2 new.3,
    )

pub returns-in_err-insert_clone-clause-refused : goal.returns-in_err-insert_clone-clause-refused
returns-in_err-insert_clone-clause-refused g c =
    let inv = c.loop-element.invariant in
    on_err c.from_residual.result _
    (first_gave g.I.Iterator.next_gives c.args.rest c.loop-element.rest c.next.new.self inv.seen
    c.in-Some.element inv.gave c.in-Some.ensures.steps)

pub returns-clause-made : goal.returns-clause-made
returns-clause-made g c =
    let inv = c.loop-element.invariant in
    let h = inv.holds in (
      inv.seen,
      h.0,
      it.drained inv c.in_default.is c.next.ensures.steps,
      h.1,
      subst (λ s. AcceptsAll (SetInserts g.T.PartialEq.eq) s h.0 c.loop-element.set)
          c.with_hasher-set.ensures h.2,
    )
