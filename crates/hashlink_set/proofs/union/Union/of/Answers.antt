use Rattle.hashlink_set.proofs.Names.{◌++◌, sym, ap₂, ◌∙◌, subst, elements_in}
use Rattle.std.specs.List.{IsDistinct}
use Rattle.hashlink_model.proofs.{LazyWalks.filter-all, Members.IsDistinct-union}
use Rattle.hashlink_set.proofs.union.Union.of.Goals as goal

pub returns-clause-rest : goal.returns-clause-rest
returns-clause-rest g c =
    ap₂ (λ xs ys. xs ++ ys) (filter-all c.of.result ∙ c.of.ensures.rest) c.of-2.ensures.rest

pub returns-clause-unique : goal.returns-clause-unique
returns-clause-unique g c =
    let eq = g.T.PartialEq.eq in
    subst (IsDistinct eq) (sym (returns-clause-rest g c))
    (IsDistinct-union eq g.met.T.Eq.laws (elements_in c.args.first.now) (elements_in c.args.second.now)
    c.of.ensures.distinct c.of-2.ensures.distinct)
