use Rattle.hashlink_run.proofs.CallLaws.{includes, follows_history}
use Rattle.hashlink_run.proofs.laws.calls_of_two_caches.Goals as goal

pub returns : goal.returns
returns g c = record { inclusion = includes _ g.met.K.Eq.laws; history = follows_history _ g.met.K.Eq.laws }
