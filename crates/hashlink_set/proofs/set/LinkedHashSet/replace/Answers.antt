use Rattle.hashlink_set.proofs.Names.{rules, state_of, subst, SetState, elements_of}
use Rattle.hashlink_set.proofs.{Entering.replaces_by_answer, Stored.replaces_distinct}
use Rattle.hashlink_set.proofs.Updated.{updates_replaced}
use Rattle.std.specs.List.{IsDistinct}
use Rattle.hashlink_set.proofs.set.LinkedHashSet.replace.Goals as goal

pub returns-clause-replaces : goal.returns-clause-replaces
returns-clause-replaces g c = search rules

pub returns-clause-elements : goal.returns-clause-elements
returns-clause-elements g c = (replaces_by_answer _ _ _ _ _ (returns-clause-replaces g c)).0

pub returns-clause-updates : goal.returns-clause-updates
returns-clause-updates g c =
    let eq = g.T.PartialEq.eq in
    updates_replaced eq g.met.T.Eq.laws _ _ _
    (subst (λ (s : SetState _ _). IsDistinct eq (elements_of s)) c.self.view_is
    c.replace_in_map.ensures.distinct) _ (returns-clause-replaces g c)

pub returns-clause-old : goal.returns-clause-old
returns-clause-old g c = (replaces_by_answer _ _ _ _ _ (returns-clause-replaces g c)).1

pub returns-clause-distinct : goal.returns-clause-distinct
returns-clause-distinct g c =
    let s = c.replace_in_map.ensures in
    replaces_distinct g.met.T.Eq.laws (state_of c.self.inside.map) (state_of c.replace_in_map.new.map)
    c.args.value c.replace_in_map.result s.replaced s.refused s.distinct
