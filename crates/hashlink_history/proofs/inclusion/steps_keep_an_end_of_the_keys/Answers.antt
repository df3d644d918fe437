use Rattle.hashlink_history.specs.Inclusion.{SameKey}
use Rattle.hashlink_history.proofs.Ends.{end-cache_put, end-cache_use, end-without, end-finds}
use Rattle.hashlink_history.proofs.inclusion.steps_keep_an_end_of_the_keys.Goals as goal

pub returns : goal.returns
returns g c = record {
  insert = λ eq laws. end-cache_put eq laws (SameKey eq) (λ p q r. r) (λ p q v t. t);
  use_step = end-cache_use;
  remove = λ eq laws. end-without eq laws (SameKey eq) (λ p q r. r);
  answers = λ eq laws. end-finds eq laws (SameKey eq) (λ p q r. r);
}
