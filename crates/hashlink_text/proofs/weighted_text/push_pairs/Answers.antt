use Rattle.std.proofs.Common.{string_bytes}
use Rattle.hashlink_text.specs.{WeightedTranscript.pairs_of, Transcript.pair_shown}
use Rattle.hashlink_text.proofs.Lists.{joined-first}
use Rattle.hashlink_text.proofs.weighted_text.push_pairs.Goals as goal

pub loop-key-init : goal.loop-key-init
loop-key-init c =
    rw (c.in-Some.ensures.steps, c.into_iter-key-iterator.ensures.into_iter_gives)
    (joined-first pair_shown (string_bytes c.args.out.now) (string_bytes c.write.new.self)
    (c.in-Some.key.now, c.in-Some.value.now) (pairs_of c.next.new.self) c.in_ok-write.ensures.bytes)
