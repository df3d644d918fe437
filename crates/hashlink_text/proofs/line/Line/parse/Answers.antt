use Rattle.std.proofs.lemmas.Result.{IfOk-weaker}
use Rattle.hashlink_text.proofs.{Grammar.says_as, Readers.reads_line}
use Rattle.hashlink_text.proofs.line.Line.parse.Goals as goal

pub returns-clause-said : goal.returns-clause-said
returns-clause-said c =
    IfOk-weaker c.line_of.result _ _ (λ line is. says_as reads_line _ _ is) c.line_of.ensures.said
