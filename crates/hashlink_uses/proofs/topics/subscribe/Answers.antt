use Rattle.std.{proofs.Common.{ap, is_ok, length, nat_eq, not, rules, ◌∙◌}, specs.Set.is_member}
use Rattle.std.specs.String.{string_bytes, string_eq_equiv}
use Rattle.hashlink.proofs.CallerLemmas.{read-found_or_made, read-text_same, read-text_updated}
use Rattle.hashlink.{specs.Sets.{elements_of, put_element}, proofs.CallerLemmas.updates-entered}
use Rattle.hashlink_uses.{proofs.Common.keys_of, specs.Subscribers.elements_in}
use Rattle.hashlink_uses.proofs.topics.subscribe.Goals as goal

pub returns : goal.returns
returns c =
    let began = read-found_or_made elements_of (λ s made. ap elements_of made.0) c.entry.ensures.value
    c.in_ok-ids.ensures.value in
    let updates = updates-entered _ _ _ _ c.args.topic c.insert.new.self string_eq_equiv
    c.entry.ensures.distinct c.entry.ensures.entry
    (c.or_default.follows.holds c.insert.new.self (ap is_ok c.in_ok-ids.was)) in
    let read = read-text_updated elements_in (string_bytes c.args.topic) _ _ _ updates
    (c.in_ok-is_new.ensures.elements ∙ ap (λ xs. put_element nat_eq xs c.args.id (length xs)) began) in
    record {
      subscribed = λ text. let at = read text in search rules;
      new = c.in_ok-is_new.ensures.new ∙ ap (λ xs. not (is_member nat_eq xs c.args.id)) began;
      unchanged = tt;
    }

pub returns-in_err-is_new-clause-unchanged : goal.returns-in_err-is_new-clause-unchanged
returns-in_err-is_new-clause-unchanged c =
    let began = read-found_or_made elements_of (λ s made. ap elements_of made.0) c.entry.ensures.value
    c.in_ok-ids.ensures.value in
    let updates = updates-entered _ _ _ _ c.args.topic c.insert.new.self string_eq_equiv
    c.entry.ensures.distinct c.entry.ensures.entry
    (c.or_default.follows.holds c.insert.new.self (ap is_ok c.in_ok-ids.was)) in
    let same = read-text_same elements_in (string_bytes c.args.topic) _ _ _ updates
    (ap keys_of c.in_err-is_new.ensures.inserts.grows.entries ∙ began) in
    search rules
