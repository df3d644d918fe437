use Rattle.std.{proofs.Common.{refl, subst, sym}, specs.Prelude.Ok}
use Rattle.hashlink_core.specs.Keyed as keyed
use Rattle.hashlink_model.proofs.{CacheBounds.{within-inserted, within-inserts}, CacheUpdates.updates-pushed}
use Rattle.hashlink_model.proofs.CacheSteps.{inserts_entries}
use Rattle.hashlink_lru.{specs.Cached.state_of, specs.Evicted.Pushes, proofs.Pushing.pushes}
use Rattle.hashlink_lru.proofs.cache.LruCache.push.Goals as goal

pub returns : goal.returns
returns g c =
    let old = state_of c.args.self.now in
    let new = state_of c.evict_excess-evicted.new.self in
    let keeps = c.evict_excess-evicted.ensures.keeps in
    let step = subst (λ out. Pushes g.K.PartialEq.eq old new c.args.key c.args.value (Ok out))
    (sym c.or.ensures)
    (pushes _ old new _ _ (keyed.state_of c.put_last.new.map) _ _ c.in_ok-replaced.ensures.inserts
    c.in_ok-replaced.ensures.replaced keeps.map keeps.cap c.evict_excess-evicted.ensures.first) in
    let entries = inserts_entries g.K.PartialEq.eq old new _ _ _ step.inserts in
    record {
      pushes = step;
      left = step.left;
      entries = entries;
      updates = updates-pushed g.K.PartialEq.eq g.met.K.Eq.laws _ _ old.cap c.args.key c.args.value
          c.put_last.ensures.distinct entries;
      there = λ _. refl;
      distinct = c.evict_excess-evicted.ensures.distinct;
      fits = within-inserted old new _ _ _ _ step.inserts;
      within = λ n. within-inserts old new n g.K.PartialEq.eq c.args.key c.args.value (Ok _) step.inserts;
    }
