use Rattle.hashlink_model.proofs.Retains.{keeps_is_filter}
use Rattle.hashlink_model.proofs.retain.retain_by_a_predicate_is_a_filter.Goals as goal

pub returns-clause-some_order : goal.returns-clause-some_order
returns-clause-some_order g c eq laws = keeps_is_filter eq laws _
