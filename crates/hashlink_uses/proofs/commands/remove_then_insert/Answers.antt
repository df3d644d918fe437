use Rattle.std.proofs.lemmas.Result.{IfOk-weaker}
use Rattle.hashlink.proofs.CallerLemmas.{answered_after_removal}
use Rattle.hashlink_uses.proofs.commands.remove_then_insert.Goals as goal

pub returns : goal.returns
returns g c = record {
  answered = IfOk-weaker c.run.result _ _
      (λ replies lawful. answered_after_removal _ c.in_ok-commands.ensures lawful)
      c.run.ensures.ran;
}
