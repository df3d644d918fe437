use Rattle.std.proofs.Common.{◌+◌, ◌*◌, ◌≤◌}
use Rattle.test_calls.proofs.lower.find_each.Given as goal

abbrev pub invariant-loop-number : goal.invariant-loop-number
invariant-loop-number g l = l.steps + 2 ≤ l.initial.steps + 2 * l.number-counter
