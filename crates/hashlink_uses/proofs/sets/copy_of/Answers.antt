use Rattle.hashlink_uses.proofs.Common.{rules, IfOk-weaker}
use Rattle.hashlink_uses.proofs.sets.copy_of.Goals as goal

pub returns-clause-same : goal.returns-clause-same
returns-clause-same g c =
    IfOk-weaker c.clone.result _ _ (λ copy h. h.same (λ x y copied. search rules))
    c.clone.ensures.made
