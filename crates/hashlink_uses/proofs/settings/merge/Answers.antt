use Rattle.std.proofs.lemmas.Result.{err_from_is_err_and}
use Rattle.hashlink.proofs.CallerLemmas.{StepsSoFar-end, StepsSoFar-next, StepsSoFar-start}
use Rattle.hashlink_uses.{proofs.Common.{◌++◌, ◌∙◌, ◌∷◌, ap, sym}, specs.Merged.with_setting}
use Rattle.hashlink_uses.proofs.settings.merge.Goals as goal

pub loop-key-init : goal.loop-key-init
loop-key-init g c = (
  tt,
  tt,
  StepsSoFar-start (with_setting g.K.PartialEq.eq) _ _ _
      c.into_iter-key-iterator.ensures.into_iter_gives,
)

pub loop-key-preserved : goal.loop-key-preserved
loop-key-preserved g c =
    let next = StepsSoFar-next (with_setting g.K.PartialEq.eq) _ _ _ _ (c.in-Some.key, c.in-Some.value) _ _
    c.loop-key.invariant.2 c.in-Some.ensures.steps c.in_ok-set.ensures.entries in
    (tt, tt, next)

pub returns-in_err-set-clause-stopped : goal.returns-in_err-set-clause-stopped
returns-in_err-set-clause-stopped g c =
    let (gone, is, so_far) = c.loop-key.invariant.2 in
    let refused = c.in_err-set.ensures.refused in
    let error = err_from_is_err_and c.from_residual.result c.from_residual.ensures.1 in
    let pair = c.in-Some.ensures.steps ∙ ap (λ p. p ∷ c.next.new.self) (sym (error.2 ∙ refused.0)) in
    rw error.1 (gone, c.next.new.self, is ∙ ap (λ ps. gone ++ ps) pair, refused.1 ∙ so_far)

pub returns-clause-all : goal.returns-clause-all
returns-clause-all g c =
    StepsSoFar-end (with_setting g.K.PartialEq.eq) _ _ _ _ c.loop-key.invariant.2 c.in-None.ensures.steps.0
