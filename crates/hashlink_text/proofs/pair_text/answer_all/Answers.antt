use Rattle.std.proofs.{Common.{◌++◌, ap, ◌∙◌, refl, append_assoc, string_bytes}, lemmas.Result.on_ok_weaker}
use Rattle.hashlink_lru.specs.Cached.{entries_of, state_of}
use Rattle.hashlink_text.specs.CacheTranscript.{TwoLists, PairLineShows, lists_shown}
use Rattle.hashlink_text.proofs.Progress.{HasCome-start, HasCome-line, HasCome-all}
use Rattle.hashlink_text.proofs.pair_text.answer_all.Goals as goal

pub loop-line-init : goal.loop-line-init
loop-line-init c =
    (rw c.into_iter-line-iterator.ensures.into_iter_gives (HasCome-start _ _ _ _), refl, refl)

pub loop-line-preserved : goal.loop-line-preserved
loop-line-preserved c =
    let come = c.loop-line.invariant in
    let answered = c.in_ok-answer.ensures in
    let shown = rw (come.1, come.2) at answered.shown in (
      HasCome-line (PairLineShows (state_of c.args.small.now).cap (state_of c.args.large.now).cap)
          c.in-Some.line.now
          (rw c.in-Some.ensures.steps at come.0)
          (shown.0, (c.meaning_of.result, c.meaning_of.ensures, shown.1), shown.2),
      answered.small_capacity ∙ come.1,
      answered.large_capacity ∙ come.2,
    )

pub returns : goal.returns
returns c =
    let held : TwoLists = (entries_of c.loop-line.small, entries_of c.loop-line.large) in
    let all =
    HasCome-all (PairLineShows (state_of c.args.small.now).cap (state_of c.args.large.now).cap)
    (rw c.in-None.ensures.steps.0 at c.loop-line.invariant.0) in
    on_ok_weaker c.push_lists.result
    (λ pushed. (
      all.0 ++ lists_shown held,
      (all.0, held, all.1, refl),
      pushed ∙ ap (λ w. w ++ lists_shown held) all.2
          ∙ append_assoc (string_bytes c.args.out.now) all.0 (lists_shown held),
    )) c.push_lists.ensures
