use Rattle.std.proofs.Common.{◌≤◌, ◌∙◌, refl, ap, arith}
use Rattle.hashlink_core.specs.Keyed.{state_of}
use Rattle.hashlink_model.{proofs.CacheUpdates.updates-fitted, specs.Weights.fitting}
use Rattle.hashlink_weighted.proofs.Inserted.{old_weight, leaves_last, accepts}
use Rattle.hashlink_weighted.proofs.cache.WeightedCache.insert_evicting.Goals as goal

pub overflow_sub-others : goal.overflow_sub-others
overflow_sub-others g c =
    rw c.take_apart-old_value.ensures
    (old_weight g.K.PartialEq.eq (state_of c.self.inside.map) (state_of c.insert.new.self) c.args.key
    c.args.value c.args.weight c.in-Ok.old c.in-Ok.ensures.inserts c.self.inside.total c.self.invariant.sum)

pub evict_until_fitting-self-inside-requires-clause-last :
    goal.evict_until_fitting-self-inside-requires-clause-last
evict_until_fitting-self-inside-requires-clause-last g c =
    rw c.take_apart-old_value.ensures
    (leaves_last g.K.PartialEq.eq (state_of c.self.inside.map) (state_of c.insert.new.self) c.args.key
    c.args.value c.args.weight c.in-Ok.old c.in-Ok.ensures.inserts c.self.inside.total c.self.invariant.sum)

pub evict_until_fitting-self-inside-requires-clause-callable :
    goal.evict_until_fitting-self-inside-requires-clause-callable
evict_until_fitting-self-inside-requires-clause-callable g c =
    rw c.in-Ok.ensures.entries (rw (← c.self.view_is) at c.requires)

pub returns-in-Ok : goal.returns-in-Ok
returns-in-Ok g c =
    let fits : c.args.weight ≤ c.self.inside.budget = omega arith in
    let e = c.evict_until_fitting-self-inside.ensures in
    let accepted =
    accepts g.K.PartialEq.eq (state_of c.self.inside.map) (state_of c.insert.new.self) c.args.key
    c.args.value c.args.weight c.in-Ok.old c.in-Ok.ensures.inserts
    (state_of c.evict_until_fitting-self-inside.new.map) c.self.inside.budget fits e.keeps in
    rw (c.take_apart-old_value.ensures, ← c.self.view_is) (record {
      inserts = accepted;
      entries = e.keeps.entries ∙ ap (λ es. fitting es c.self.inside.budget) c.in-Ok.ensures.entries;
      updates = updates-fitted g.K.PartialEq.eq g.met.K.Eq.laws _ _ _ c.self.inside.budget c.args.key
          c.args.value c.args.weight c.in-Ok.ensures.entries c.in-Ok.ensures.distinct c.in-Ok.ensures.updates
          fits e.keeps.entries;
      old = accepted.old_value;
      there = λ _ _. refl;
      too_heavy = (λ same. absurd (cc), λ over. absurd (omega arith));
      distinct = e.distinct;
      given = rw c.in-Ok.ensures.entries at e.given;
      not_called = tt;
    })

pub returns-then-weight-self-clause-inserts : goal.returns-then-weight-self-clause-inserts
returns-then-weight-self-clause-inserts g c =
    (refl, record { too_heavy = rw (← c.self.view_is) c.if-weight-self.true; unchanged = refl })

pub returns-in-Err-clause-inserts : goal.returns-in-Err-clause-inserts
returns-in-Err-clause-inserts g c =
    let refused = c.in-Err.ensures.inserts in
    let same = refused.handed_back in
    rw (← c.self.view_is) (
      ap (λ p. (p.0, p.1.0)) same,
      record { not_too_heavy = c.if-weight-self.false; refuses = rw same at refused; budget = refl },
    )
