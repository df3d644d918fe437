use Rattle.std.proofs.Common.{refl, ap, sym, ◌∙◌}
use Rattle.hashlink_weighted.{specs.Answers.without_weight, proofs.Totals.{removes_weight, removes_none}}
use Rattle.hashlink_weighted.proofs.cache.WeightedCache.remove.Goals as goal

pub invariant_of-self : goal.invariant_of-self
invariant_of-self g c =
    removes_none _ _ _ _ _ (sym c.in_err-value.was ∙ c.remove.ensures.value) c.remove.ensures.removes
    c.self.invariant

pub overflow_sub-self : goal.overflow_sub-self
overflow_sub-self g c =
    (removes_weight _ _ _ _ _ _ (sym c.in_ok-value.was ∙ c.remove.ensures.value) c.remove.ensures.removes
    c.self.invariant).0

pub invariant_of-self-2 : goal.invariant_of-self-2
invariant_of-self-2 g c =
    (removes_weight _ _ _ _ _ _ (sym c.in_ok-value.was ∙ c.remove.ensures.value) c.remove.ensures.removes
    c.self.invariant).1

pub returns-in_err-value : goal.returns-in_err-value
returns-in_err-value g c =
    let e = c.remove.ensures in
    let value = c.from_residual.ensures ∙ ap without_weight (sym c.in_err-value.was ∙ e.value) in
    rw (← c.self.view_is)
    (record {
      value = value;
      removes = record { removes = e.removes; budget = refl };
      updates = e.updates;
      distinct = e.distinct;
    })

pub returns : goal.returns
returns g c =
    let e = c.remove.ensures in
    let value = ap without_weight (sym c.in_ok-value.was ∙ e.value) in
    rw (← c.self.view_is)
    (record {
      value = value;
      removes = record { removes = e.removes; budget = refl };
      updates = e.updates;
      distinct = e.distinct;
    })
