use Rattle.std.proofs.Common.{string_bytes}
use Rattle.hashlink_text.{specs.Lines.lines_of, proofs.Progress.HasCome}
use Rattle.hashlink_text.proofs.reading.answer_lines.Given as goal

abbrev pub invariant-loop-line : goal.invariant-loop-line
invariant-loop-line g l =
    HasCome g.C.AnswersLines.shows l.fn.container l.container (lines_of l.fn.lines.rest.now)
    (lines_of l.line-iterator.rest.now) (string_bytes l.fn.out) (string_bytes l.out)
