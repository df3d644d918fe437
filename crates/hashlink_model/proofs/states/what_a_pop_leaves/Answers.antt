use Rattle.std.proofs.Common.{[], ◌∙◌, append-nil}
use Rattle.hashlink_model.proofs.{Splits.remove_entry-here, Places.none_before}
use Rattle.hashlink_model.proofs.states.what_a_pop_leaves.Goals as goal

pub returns-clause-last_by_key : goal.returns-clause-last_by_key
returns-clause-last_by_key g c eq laws es e d =
    let same = laws.refl e.0 in
    remove_entry-here (eq e.0) e [] same es (none_before eq laws es e [] e.0 d same) ∙ append-nil es
