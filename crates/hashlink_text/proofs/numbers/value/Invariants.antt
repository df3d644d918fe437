use Rattle.hashlink_text.proofs.Digits.{IsValueOfFirst}
use Rattle.hashlink_text.proofs.numbers.value.Given as goal

abbrev pub invariant-loop-byte : goal.invariant-loop-byte
invariant-loop-byte l = IsValueOfFirst l.digits l.byte-index l.value
