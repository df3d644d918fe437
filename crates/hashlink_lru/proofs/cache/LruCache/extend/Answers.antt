use Rattle.std.proofs.lemmas.Result.{IfErr-weaker}
use Rattle.hashlink_lru.proofs.cache.LruCache.extend.Goals as goal

pub returns-clause-stopped : goal.returns-clause-stopped
returns-clause-stopped g c =
    IfErr-weaker c.extend_from.result _ _ (λ e h. (
      c.into_iter-rest.result,
      h.0,
      c.extend_from.new.iter,
      c.into_iter-rest.ensures.into_iter_gives,
      h.1,
      h.2,
    )) c.extend_from.ensures.stopped
