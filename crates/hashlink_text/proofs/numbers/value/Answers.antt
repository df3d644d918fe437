use Rattle.std.proofs.Common.{sym, ◌∙◌}
use Rattle.hashlink_text.proofs.Digits.{IsValueOfFirst-none, value_of-none, IsValueOfFirst-more}
use Rattle.hashlink_text.proofs.Digits.{value_of-some}
use Rattle.hashlink_text.proofs.numbers.value.Goals as goal

pub loop-byte-init : goal.loop-byte-init
loop-byte-init c = IsValueOfFirst-none _

pub loop-byte-preserved : goal.loop-byte-preserved
loop-byte-preserved c =
    rw c.in_ok-value.ensures.1
    (IsValueOfFirst-more _ _ _ c.loop-byte-test.true c.loop-byte.invariant c.in_ok-value.ensures.0)

pub returns-in_err-value : goal.returns-in_err-value
returns-in_err-value c = c.from_residual.ensures
    ∙ sym (value_of-none _ _ _ c.loop-byte-test.true c.loop-byte.invariant c.in_err-value.ensures)

pub returns : goal.returns
returns c = sym (value_of-some _ c.loop-byte.byte-index _ c.loop-byte-test.false c.loop-byte.invariant)
