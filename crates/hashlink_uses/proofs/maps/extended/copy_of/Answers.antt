use Rattle.std.proofs.Common.{rules}
use Rattle.hashlink_uses.proofs.maps.extended.copy_of.Goals as goal

pub returns-clause-same : goal.returns-clause-same
returns-clause-same g c = c.clone.ensures.same (λ x y copied. search rules) (λ x y copied. search rules)
