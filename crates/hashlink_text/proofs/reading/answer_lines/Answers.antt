use Rattle.hashlink_text.proofs.Progress.{HasCome-start, HasCome-line, HasCome-all}
use Rattle.hashlink_text.proofs.reading.answer_lines.Goals as goal

pub loop-line-init : goal.loop-line-init
loop-line-init g c =
    rw c.into_iter-line-iterator.ensures.into_iter_gives (HasCome-start g.C.AnswersLines.shows _ _ _)

pub loop-line-preserved : goal.loop-line-preserved
loop-line-preserved g c =
    HasCome-line g.C.AnswersLines.shows c.in-Some.line.now
    (rw c.in-Some.ensures.steps at c.loop-line.invariant) c.in_ok-answer_line.ensures

pub returns : goal.returns
returns g c =
    HasCome-all g.C.AnswersLines.shows (rw c.in-None.ensures.steps.0 at c.loop-line.invariant)
