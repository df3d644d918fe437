use Rattle.hashlink_curve.proofs.Names.{[], ◌∷◌, ◌++◌, ◌∙◌, ap, arith, subst, sym, take, Counted}
use Rattle.std.proofs.lemmas.List.{take_more}
use Rattle.hashlink_curve.proofs.curve.miss_curve.Goals as goal

pub loop-key-preserved : goal.loop-key-preserved
loop-key-preserved g c =
    let used = take c.loop-key.key-index c.args.keys.now in
    let next = take_more c.args.keys.now c.loop-key.key-index c.key-item.result (omega arith)
    ∙ ap (λ k. used ++ k ∷ []) (sym c.key-item.is) in
    subst (λ ks. Counted g.K.PartialEq.eq ks c.record.new.self) (sym next)
    (c.in-Ok.ensures.counted used c.loop-key.invariant).0
