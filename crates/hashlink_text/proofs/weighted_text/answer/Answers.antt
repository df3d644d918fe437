use Rattle.std.proofs.{Common.{◌≡◌, codes, nat_eq, refl, ap, ◌∙◌, rules, [], ◌∷◌}, lemmas.Result.on_ok_weaker}
use Rattle.hashlink_text.specs.{declared.shown.Form.TheVariants.OfValue, Transcript.{Itself, replies_shown}}
use Rattle.hashlink_run.proofs.CacheWider.{weighted_step-wider}
use Rattle.hashlink_text.proofs.weighted_text.answer.Goals as goal

pub returns-in-None : goal.returns-in-None
returns-in-None c =
    rw c.in-None.is
    (on_ok_weaker c.writeln-in-None.result (λ e. (codes "bad", (refl, refl), e))
    c.writeln-in-None.ensures.bytes)

pub returns-in-Some-Do : goal.returns-in-Some-Do
returns-in-Some-Do c =
    let replies = c.answer_weighted-reply.result ∷ [] in
    let step = weighted_step-wider _ Itself
    (λ k v b s. let read : b ≡ (s.key.now, s.value.now) = search rules in
    read ∙ ap (λ x. (x, s.value.now)) s.shows.0 ∙ ap (λ y. (k, y)) s.shows.1) nat_eq
    c.args.cache.now replies c.answer_weighted-reply.new.cache c.in-Some-Do.command
    c.answer_weighted-reply.ensures in
    let said = rw c.in-Some-Do.is at c.in-Some-Do.field-0-is in
    rw (c.in-Some-Do.is, said)
    (on_ok_weaker c.push_replies.result (λ e. (replies_shown OfValue replies, (replies, step, refl), e))
    c.push_replies.ensures)
