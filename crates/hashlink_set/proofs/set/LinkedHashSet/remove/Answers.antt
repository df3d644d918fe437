use Rattle.hashlink_set.proofs.{Names.{is_some, sym, ap, ◌∙◌}, Leaving.removes_match_elements}
use Rattle.hashlink_set.proofs.Lookups.{member-entry}
use Rattle.hashlink_core.proofs.AtKeyNode.{is_some-map}
use Rattle.hashlink_set.proofs.set.LinkedHashSet.remove.Goals as goal

pub returns-clause-answer : goal.returns-clause-answer
returns-clause-answer g c =
    c.is_some.ensures ∙ sym (is_some-map (λ t. (t, tt)) c.take.result)
    ∙ ap is_some c.take.ensures.removes.answer
    ∙ member-entry c.args.self.now.entries (g.Q.Equivalent.matches c.args.value)

pub returns-clause-elements : goal.returns-clause-elements
returns-clause-elements g c =
    removes_match_elements c.args.self.now c.take.new.self _ _ c.take.ensures.removes
