use Rattle.std.proofs.Common.{string_bytes}
use Rattle.hashlink_text.{specs.Transcript.pair_shown, proofs.Lists.joined-first}
use Rattle.hashlink_text.proofs.text.push_list.Goals as goal

pub loop-key-init : goal.loop-key-init
loop-key-init c =
    rw (c.in-Some.ensures.steps, c.into_iter-key-iterator.ensures.into_iter_gives)
    (joined-first pair_shown (string_bytes c.args.out.now) (string_bytes c.write.new.self)
    (c.in-Some.key.now, c.in-Some.value.now) c.next.new.self c.in_ok-write.ensures.bytes)
