use Rattle.hashlink_history.proofs.inclusion.inserts_and_removals_keep_an_end_of_the_entries.Goals as goal
use Rattle.std.specs.Prelude.{refl}
use Rattle.hashlink_history.{proofs.Ends.{end-cache_put, end-without}, specs.Inclusion.SameEntry}

pub returns-clause-insert : goal.returns-clause-insert
returns-clause-insert g c eq laws = end-cache_put eq laws (SameEntry eq) (λ p q r. r.0) (λ p q v t. (t, refl))

pub returns-clause-remove : goal.returns-clause-remove
returns-clause-remove g c eq laws = end-without eq laws (SameEntry eq) (λ p q r. r.0)
