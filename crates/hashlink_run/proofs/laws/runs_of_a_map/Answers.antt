use Rattle.hashlink_run.proofs.Chains.{stays_within_peak, takes_keys_where_shorter}
use Rattle.hashlink_run.proofs.laws.runs_of_a_map.Goals as goal

pub returns : goal.returns
returns g c =
    record { within_peak = λ f. stays_within_peak _ _ _; shorter = λ f. takes_keys_where_shorter _ _ _ }
