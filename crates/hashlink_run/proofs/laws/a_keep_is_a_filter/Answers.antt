use Rattle.hashlink_run.{specs.Reads.ClosureSays, proofs.Kept.kept_by_predicate}
use Rattle.hashlink_run.proofs.laws.a_keep_is_a_filter.Goals as goal

pub returns : goal.returns
returns g c = λ eq f p says old new replies s. kept_by_predicate (ClosureSays g.F.Fn f) p says old new s.0
