use Rattle.hashlink_curve.proofs.Names.{◌≡◌, ◌-◌, length, sym, ap, ap₂, ◌∙◌, subst, arith, sum, CurveState}
use Rattle.hashlink_curve.proofs.{Names.{ListsFalls, falls_from}, FallsListed.lists_falls}
use Rattle.hashlink_curve.proofs.curve.MissCurve.falls.Goals as goal

pub returns : goal.returns
returns g c =
    let same = c.deref.ensures.value in
    let sums = ap sum same in
    let cold : c.self.inside.accesses - sum c.deref.result.now ≡ length c.self.inside.recency.keys
    = omega arith in
    let exact = c.new.ensures ∙ ap₂ (λ n ns. falls_from n 0 ns) cold same
    ∙ ap (λ (s : CurveState g.row.K.Denot). falls_from (length s.keys) 0 s.reuses) c.self.view_is in
    record {
      falls = subst (ListsFalls c.args.self.now) (sym exact) (lists_falls c.args.self.now);
      exact = exact;
    }
