use Rattle.std.proofs.Common.{◌≤◌}
use Rattle.hashlink_table.specs.Contents.{len_of}
use Rattle.test_calls.{specs.Telling.Tells, proofs.Numbered.IsNumbered}
use Rattle.test_calls.proofs.lower.numbered.Given as goal

abbrev pub invariant-loop-number : goal.invariant-loop-number
invariant-loop-number l =
    IsNumbered l.table l.number × (len_of l.table ≤ l.table.room) × Tells (λ n. n) l.table
