use Rattle.std.proofs.lemmas.Result.{on_ok_weaker}
use Rattle.hashlink_text.proofs.cache_text.LruCacheU64U64AnswersLines.answer_line.Goals as goal

pub returns : goal.returns
returns c =
    let line = c.meaning_of in
    on_ok_weaker c.answer.result (λ pushed. (pushed.0, (line.result, line.ensures, pushed.1), pushed.2))
    c.answer.ensures
