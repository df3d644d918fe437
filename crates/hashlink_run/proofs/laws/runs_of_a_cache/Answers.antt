use Rattle.hashlink_run.proofs.{CacheLengths.keeps_bounds, CachePasses.cache_within_peak}
use Rattle.hashlink_run.proofs.{CachePuts.inserts_fit, CacheSpare.takes_all_after_a_drop}
use Rattle.hashlink_run.proofs.laws.runs_of_a_cache.Goals as goal

pub returns : goal.returns
returns g c = record {
  within_peak = λ f. cache_within_peak _ _;
  after_a_drop = λ f. takes_all_after_a_drop _ _;
  bounded = λ f. keeps_bounds _ _;
  fits = λ f. inserts_fit _ _;
}
