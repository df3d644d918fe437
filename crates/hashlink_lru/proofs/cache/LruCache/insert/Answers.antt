use Rattle.std.{proofs.Common.{rules, refl, subst, sym, length, ◌+◌, ◌≤◌}, specs.Prelude.Ok}
use Rattle.hashlink_core.specs.Keyed as keyed
use Rattle.hashlink_model.{specs.Cache.CacheInserts, proofs.CacheBounds.{within-inserted, within-inserts}}
use Rattle.hashlink_model.proofs.{CacheSteps.inserts_entries, CacheUpdates.updates-kept_last}
use Rattle.hashlink_lru.specs.Cached.{state_of}
use Rattle.hashlink_lru.proofs.cache.LruCache.insert.Goals as goal

pub returns-in_err-old-clause-inserts : goal.returns-in_err-old-clause-inserts
returns-in_err-old-clause-inserts g c = search rules

pub returns-in_err-old-clause-within : goal.returns-in_err-old-clause-within
returns-in_err-old-clause-within g c = λ n within.
    subst (λ es. length es ≤ c.args.self.now.capacity + n) (sym c.in_err-old.ensures.inserts.grows.entries)
    within

pub returns : goal.returns
returns g c =
    let eq = g.K.PartialEq.eq in let old = state_of c.args.self.now in
    let new = state_of c.keep_last.new.self in
    let inserts = c.in_ok-old.ensures.inserts in let e = c.keep_last.ensures in
    let step : CacheInserts eq old new c.args.key c.args.value (Ok c.in_ok-old.old) = record {
      map = record { between = keyed.state_of c.insert.new.self; inserts = inserts; fits = e.keeps.map };
      cap = e.keeps.cap;
    } in
    record {
      inserts = step;
      entries = inserts_entries eq old new _ _ _ step;
      updates = updates-kept_last eq g.met.K.Eq.laws _ _ _ c.args.self.now.capacity c.args.key c.args.value
          c.in_ok-old.ensures.entries c.in_ok-old.ensures.distinct c.in_ok-old.ensures.updates
          e.keeps.map.entries;
      old = c.in_ok-old.ensures.old;
      there = λ _. refl;
      distinct = e.distinct;
      fits = within-inserted old new eq c.args.key c.args.value c.in_ok-old.old step;
      within = λ n. within-inserts old new n eq c.args.key c.args.value (Ok c.in_ok-old.old) step;
    }
