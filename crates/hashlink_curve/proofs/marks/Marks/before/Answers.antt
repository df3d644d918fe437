use Rattle.hashlink_curve.proofs.Names.{sym, subst, refl, ap, length, arith, Marked}
use Rattle.hashlink_curve.proofs.{Sums.{Read, reads, marks_before}, marks.Marks.before.Goals.After-deref-2}
use Rattle.hashlink_curve.proofs.marks.Marks.before.Goals as goal

pub sum_of_bytes-requires : goal.sum_of_bytes-requires
sum_of_bytes-requires c =
    let s = reads _ _ _ c.self.inside.sums.items _ c.args.place c.self.invariant c.self.view_is c.requires
    c.deref.ensures.value refl in
    omega (arith, s.fits, s.sums)

-- what the calls read
seen : (c : After-deref-2)
    → Read c.self.inside.row.items c.deref.result.now c.deref-2.result.now c.args.place
seen c =
    reads _ _ _ _ _ c.args.place c.self.invariant c.self.view_is c.requires c.deref.ensures.value
    c.deref-2.ensures.value

pub sum_before-requires-clause-within : goal.sum_before-requires-clause-within
sum_before-requires-clause-within c =
    (seen (goal.at.sum_before-requires-clause-within c).After-deref-2).within

pub sum_before-requires-clause-fits : goal.sum_before-requires-clause-fits
sum_before-requires-clause-fits c =
    let s = seen (goal.at.sum_before-requires-clause-fits c).After-deref-2 in
    omega (arith, s.fits, s.sums)

pub overflow_add-result : goal.overflow_add-result
overflow_add-result c =
    let s = seen (goal.at.overflow_add-result c).After-deref-2 in
    omega (arith, s.fits, s.sums)

pub returns : goal.returns
returns c places m =
    let s = seen (goal.at.returns c).After-deref-2 in
    let wide = ap length c.self.view_is in
    let marks = marks_before c.self.inside.row.items places
    (subst (λ r. Marked r places) (sym c.self.view_is) m) c.args.place (omega arith) in
    omega (arith, s.sums)
