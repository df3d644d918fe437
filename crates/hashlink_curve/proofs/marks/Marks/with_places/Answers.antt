use Rattle.hashlink_curve.proofs.Names.{◌≡◌, ◌+◌, ◌/◌, ◌∙◌, ◌++◌, ◌∷◌, [], List, ℕ, ap, subst, sym, arith}
use Rattle.hashlink_curve.proofs.Names.{rules, replicate, map-append, rows_of}
use Rattle.hashlink_curve.proofs.Sums.{OpenRows, OpenRows-push, OpenRows-end}
use Rattle.hashlink_curve.proofs.marks.Marks.with_places.Goals as goal

pub loop-width-preserved : goal.loop-width-preserved
loop-width-preserved c =
    let i = c.loop-width.invariant in
    let more = c.loop-width.width / 64 + 1 in
    let zeros : c.in_ok-vec.field-0.items ≡ replicate more 0 = search rules in
    let pushed : rows_of c.push.new.self.items ≡ rows_of c.loop-width.sums.items ++ replicate more 0 ∷ []
    = ap rows_of c.in_ok-push.ensures.items
    ∙ map-append (λ r. r.items) c.loop-width.sums.items (c.in_ok-vec.field-0 ∷ [])
    ∙ ap (λ (r : List ℕ). rows_of c.loop-width.sums.items ++ r ∷ []) zeros in (
      subst (λ rs. OpenRows c.in_ok-row.row.items rs more) (sym pushed)
          (OpenRows-push c.in_ok-row.row.items (rows_of c.loop-width.sums.items) c.loop-width.width more i.0
          (omega arith)),
      i.1,
      i.2,
    )

pub invariant_of-result : goal.invariant_of-result
invariant_of-result c =
    let i = c.loop-width.invariant in
    OpenRows-end c.in_ok-row.row.items (rows_of c.loop-width.sums.items) c.loop-width.width c.args.places i.1
    i.2 i.0 (omega arith)
