use Rattle.std.proofs.lemmas.Result.{on_ok_weaker}
use Rattle.hashlink_text.proofs.map_text.MapWithRepliesAnswersLines.answer_line.Goals as goal

pub returns : goal.returns
returns c =
    on_ok_weaker c.answer.result (λ pushed. (pushed.0, (_, c.in_ok-line.ensures.said, pushed.1), pushed.2))
    c.answer.ensures
