use Rattle.hashlink_set.proofs.Names.{rules, subst, elements_in}
use Rattle.std.specs.List.{IsDistinct}
use Rattle.hashlink_model.proofs.Members.{IsDistinct-difference}
use Rattle.hashlink_set.proofs.sifted.Difference+T+S.of.Goals as goal

pub returns-clause-unique : goal.returns-clause-unique
returns-clause-unique g c =
    let eq = g.T.PartialEq.eq in
    IsDistinct-difference eq g.met.T.Eq.laws _ (elements_in c.args.second.now)
    (subst (IsDistinct eq) (search rules) c.of.ensures.distinct)
