use Rattle.hashlink_history.proofs.Peaks.{passes-cache_insert}
use Rattle.hashlink_history.proofs.peak.lengths_that_a_cache_insert_passes.Goals as goal

pub returns : goal.returns
returns g c = passes-cache_insert
