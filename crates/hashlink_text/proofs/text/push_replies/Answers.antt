use Rattle.std.proofs.Common.{sym, ◌∙◌, string_bytes}
use Rattle.hashlink_text.{specs.Transcript.reply_shown, proofs.Lists.joined-first}
use Rattle.hashlink_text.proofs.text.push_replies.Goals as goal

pub loop-reply-init : goal.loop-reply-init
loop-reply-init c =
    let all = sym c.iter-rest.ensures.rest ∙ c.in-Some.ensures.steps in
    rw (all, c.into_iter-reply-iterator.ensures.into_iter_gives)
    (joined-first (reply_shown c.args.form) (string_bytes c.args.out.now) (string_bytes c.push_reply.new.out)
    c.in-Some.first.now _ c.in_ok-push_reply.ensures)
