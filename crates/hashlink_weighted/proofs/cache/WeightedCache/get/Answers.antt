use Rattle.std.{proofs.Common.{refl, ap, sym, subst, ◌∙◌}, specs.Option.option_copied_mut}
use Rattle.hashlink_core.specs.Keyed.{state_of}
use Rattle.hashlink_model.{specs.Steps.MovesMatch, proofs.MovedLast.moved_match_last}
use Rattle.hashlink_weighted.{specs.Answers.without_weight, proofs.Totals.moves_total}
use Rattle.hashlink_weighted.proofs.cache.WeightedCache.get.Goals as goal

pub invariant_of-self : goal.invariant_of-self
invariant_of-self g c =
    let v = c.in-Some.pair.now in
    let test = g.Q.Equivalent.matches c.args.key in
    moves_total _ _ _ _ _ _ (moved_match_last g.K.PartialEq.eq g.met.K.Eq.laws test
    (g.met.Q.Equivalent.finds_equal c.args.key) (state_of c.self.inside.map) _ v c.to_back.ensures.distinct
    (sym c.to_back.ensures.value ∙ ap option_copied_mut c.in-Some.is) (c.to_back.follows.holds v))
    c.self.invariant

pub returns-in-Some : goal.returns-in-Some
returns-in-Some g c =
    let test = g.Q.Equivalent.matches c.args.key in
    let v = c.in-Some.pair.now in
    let at = sym c.to_back.ensures.value ∙ ap option_copied_mut c.in-Some.is in
    let moves = moved_match_last g.K.PartialEq.eq g.met.K.Eq.laws test
    (g.met.Q.Equivalent.finds_equal c.args.key) (state_of c.self.inside.map) _ v c.to_back.ensures.distinct
    at (c.to_back.follows.holds v) in
    rw (← c.self.view_is) (
      (
        refl,
        λ _. tt,
        record {
          moves = subst (MovesMatch test (state_of c.self.inside.map) _ _) (sym at) moves;
          budget = refl;
        },
      ),
      record {
        used = tt;
        keeps = c.to_back.ensures.keeps;
        value = ap without_weight (sym at);
        distinct = c.to_back.ensures.distinct;
      },
    )

pub returns-in-None : goal.returns-in-None
returns-in-None g c =
    let none = sym c.to_back.ensures.value ∙ ap option_copied_mut c.in-None.is in
    rw (← c.self.view_is) (
      (
        refl,
        λ _. tt,
        record {
          moves = subst (MovesMatch (g.Q.Equivalent.matches c.args.key) (state_of c.self.inside.map) _ _)
              (sym none) (record { answer = sym none; step = c.to_back.follows.holds-at-none });
          budget = refl;
        },
      ),
      record {
        used = tt;
        keeps = c.to_back.ensures.keeps;
        value = ap without_weight (sym none);
        distinct = c.to_back.ensures.distinct;
      },
    )
