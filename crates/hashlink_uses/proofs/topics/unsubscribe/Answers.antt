use Rattle.std.{proofs.Common.{ap, nat_eq, sym, ◌∙◌}, specs.Set.remove_key}
use Rattle.std.proofs.lemmas.List.{nil_from_length}
use Rattle.hashlink.proofs.CallerLemmas.{read-text_updated, updates-lent, updates-twice}
use Rattle.hashlink_uses.specs.Subscribers.{elements_in}
use Rattle.hashlink_uses.proofs.topics.unsubscribe.Goals as goal

pub returns-else-is_empty-clause-left : goal.returns-else-is_empty-clause-left
returns-else-is_empty-clause-left c =
    read-text_updated elements_in c.args.topic.now _ _ _ (updates-lent _ _ _ _ _ c.remove-was_there.new.self
    c.in-Some.ensures.updates (ap (λ m. m.entries) (c.get_mut.follows.holds c.remove-was_there.new.self)))
    (c.remove-was_there.ensures.elements
    ∙ ap (λ o. remove_key (nat_eq c.args.id) (elements_in o)) c.in-Some.ensures.value)

pub returns-then-is_empty-clause-left : goal.returns-then-is_empty-clause-left
returns-then-is_empty-clause-left c =
    read-text_updated elements_in c.args.topic.now _ _ _ (updates-twice _ _ _ _ _ _ _ (updates-lent _ _ _ _ _
    c.remove-was_there.new.self c.in-Some.ensures.updates
    (ap (λ m. m.entries) (c.get_mut.follows.holds c.remove-was_there.new.self)))
    c.remove.ensures.updates)
    (sym (nil_from_length _ (c.is_empty.ensures.0 c.if-is_empty.true)) ∙ c.remove-was_there.ensures.elements
    ∙ ap (λ o. remove_key (nat_eq c.args.id) (elements_in o)) c.in-Some.ensures.value)
