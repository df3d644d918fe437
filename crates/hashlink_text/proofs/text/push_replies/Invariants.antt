use Rattle.std.proofs.Common.{◌≡◌, ◌++◌, string_bytes}
use Rattle.hashlink_text.{specs.Transcript.{reply_shown, replies_shown}, proofs.Lists.following_shown}
use Rattle.hashlink_text.proofs.text.push_replies.Given as goal

abbrev pub invariant-loop-reply : goal.invariant-loop-reply
invariant-loop-reply l = string_bytes l.out ++ following_shown (reply_shown l.form) l.reply-iterator.rest.now
    ≡ string_bytes l.fn.out ++ replies_shown l.form l.fn.replies
