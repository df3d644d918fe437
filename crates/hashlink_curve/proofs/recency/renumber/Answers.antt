use Rattle.hashlink_curve.proofs.{Names.{◌∙◌, arith, sym}, Placing.{free_at, Renumbers-step}}
use Rattle.hashlink_map.proofs.Walking.{on-some}
use Rattle.hashlink_curve.proofs.recency.renumber.Goals as goal

pub mark-requires-clause-unmarked : goal.mark-requires-clause-unmarked
mark-requires-clause-unmarked g c =
    let i = c.loop-value.invariant.1 in
    free_at _ _ _ i.rises i.marked (omega arith)

pub loop-value-preserved : goal.loop-value-preserved
loop-value-preserved g c =
    let i = c.loop-value.invariant in
    let steps = c.next.follows.holds c.loop-value.place in
    let told = on-some c.in-Some.is steps.0 in (
      told.0 ∙ i.0,
      Renumbers-step i.1 c.in-Some.ensures.left told.1 c.mark.ensures.marked,
      omega (arith, i.2, steps.1, c.in-Some.ensures.left),
      i.3 ∙ sym c.mark.ensures.width,
      i.4,
    )
