use Rattle.std.proofs.Common.{refl, arith, ◌≡◌, ◌≤◌, ◌-◌}
use Rattle.hashlink_map.proofs.Taking.{kept-none}
use Rattle.hashlink_weighted.proofs.Dropping.{drops_one, not_none, drops_enough}
use Rattle.hashlink_weighted.proofs.Evicting.{begins, may_give, given, given_all}
use Rattle.hashlink_weighted.proofs.cache.eviction.evict_until_fitting.Goals.{Left-loop-others}
use Rattle.hashlink_weighted.proofs.cache.eviction.evict_until_fitting.Goals as goal

pub loop-others-init : goal.loop-others-init
loop-others-init g c =
    record {
      dropped = record { keeps = kept-none _; last = c.requires.last; same = refl };
      evicting = begins _ _ _ _ c.requires.callable;
      distinct = c.requires.distinct;
      room = refl;
    }

pub overflow_sub-others : goal.overflow_sub-others
overflow_sub-others g c =
    (drops_one _ _ _ _ _ _ c.loop-others.invariant.dropped c.requires.not_too_heavy c.loop-others-test.true _
    c.in-Some.ensures.pops).0

pub on_evicted-requires : goal.on_evicted-requires
on_evicted-requires g c =
    may_give _ _ _ _ _ _ _ _ _ c.loop-others.invariant.dropped.last c.requires.not_too_heavy
    c.loop-others-test.true c.loop-others.invariant.evicting _ c.in-Some.ensures.pops

pub loop-others-preserved : goal.loop-others-preserved
loop-others-preserved g c =
    let i = c.loop-others.invariant in
    record {
      dropped = (drops_one _ _ _ _ _ _ i.dropped c.requires.not_too_heavy c.loop-others-test.true _
          c.in-Some.ensures.pops).1;
      evicting = given _ _ _ _ _ _ _ _ _ i.dropped.last c.requires.not_too_heavy c.loop-others-test.true
          i.evicting _ c.in-Some.ensures.pops _ c.on_evicted.ensures;
      distinct = c.pop_front.ensures.distinct;
      room = refl;
    }

-- the loop ends only if the other entries fit
ended : (g : _) (c : Left-loop-others g)
    → (c.loop-others.others ≤ c.args.budget - c.args.weight) × (c.loop-others-test.map ≡ c.loop-others.map)
ended g c = elim c.loop-others-test.branch [
  | goal.else-loop-others-test w ↦ (w.loop-others-test.false, w.map-is)
  | goal.then-loop-others-test+in_default w ↦ absurd
      (not_none _ _ _ _ _ _ c.loop-others.invariant.dropped w.loop-others-test.true w.in_default.ensures.pops)
]

pub overflow_add-result : goal.overflow_add-result
overflow_add-result g c =
    let fits = (ended g (goal.at.overflow_add-result g c).Left-loop-others).0 in
    omega (arith, c.ranges.budget.fits, c.requires.not_too_heavy)

pub returns-clause-keeps : goal.returns-clause-keeps
returns-clause-keeps g c =
    let end = ended g (goal.at.returns-clause-keeps g c).Left-loop-others in
    rw end.1 (drops_enough _ _ _ _ _ c.loop-others.invariant.dropped c.requires.not_too_heavy end.0).0

pub returns-clause-total : goal.returns-clause-total
returns-clause-total g c =
    let end = ended g (goal.at.returns-clause-total g c).Left-loop-others in
    rw end.1 (drops_enough _ _ _ _ _ c.loop-others.invariant.dropped c.requires.not_too_heavy end.0).1

pub returns-clause-given : goal.returns-clause-given
returns-clause-given g c =
    let end = ended g (goal.at.returns-clause-given g c).Left-loop-others in
    given_all _ _ _ _ _ _ _ _ c.loop-others.invariant.dropped.last c.requires.not_too_heavy end.0
    c.loop-others.invariant.evicting
