use Rattle.std.{proofs.Common.{◌≡◌, ◌++◌, length}, specs.Option.option_map}
use Rattle.hashlink_text.specs.{Cuts.parts_left, Reading.steps_after, Tables.tokens}
use Rattle.hashlink_text.proofs.line.said_of_cursor.Given as goal

abbrev pub invariant-loop-name : goal.invariant-loop-name
invariant-loop-name l =
    steps_after 0 (tokens (parts_left 32 l.fn.words.rest))
    ≡ option_map (λ steps. l.steps.items ++ steps) (steps_after 0 (tokens (parts_left 32 l.words.rest)))

abbrev pub decreases-loop-name : goal.decreases-loop-name
decreases-loop-name l = length (parts_left 32 l.words.rest)
