use Rattle.std.proofs.lemmas.Result.{on_ok_weaker}
use Rattle.hashlink_core.specs.Hashing.{default_builder}
use Rattle.hashlink_text.proofs.weighted_text.run_weighted_lines.Goals as goal

pub returns : goal.returns
returns c =
    on_ok_weaker c.answer_lines.result
    (λ pushed. (
      pushed.0,
      (default_builder, c.answer_lines.new.container, rw c.new-cache.ensures at pushed.1),
      pushed.2,
    ))
    c.answer_lines.ensures
