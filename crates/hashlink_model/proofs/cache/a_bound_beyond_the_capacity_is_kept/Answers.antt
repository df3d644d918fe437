use Rattle.hashlink_model.proofs.{Caches.cache_use-at_most, CacheBounds.within-gets_match_and_writes}
use Rattle.hashlink_model.proofs.cache.a_bound_beyond_the_capacity_is_kept.Goals as goal

pub returns-clause-get_mut : goal.returns-clause-get_mut
returns-clause-get_mut g c old new n eq k = within-gets_match_and_writes old new n (eq k)

pub returns-clause-use_step : goal.returns-clause-use_step
returns-clause-use_step g c = cache_use-at_most
