use Rattle.std.proofs.Common.{◌≡◌, ◌++◌, [], ◌∷◌, codes, decimal, nat_eq, refl, ap, ap₂, ◌∙◌, string_bytes}
use Rattle.std.proofs.lemmas.Result.{on_ok_weaker}
use Rattle.hashlink_history.specs.CacheRuns.{answer_to}
use Rattle.hashlink_lru.specs.Cached.{entries_of, state_of}
use Rattle.hashlink_run.{specs.CacheCalls.event_of, proofs.Called.left}
use Rattle.hashlink_text.specs.{CacheTranscript.{TwoLists, answers_shown}, Transcript.{ended, shown_by}}
use Rattle.hashlink_text.proofs.pair_text.answer.Goals as goal

pub returns-in_default-clause-shown : goal.returns-in_default-clause-shown
returns-in_default-clause-shown c =
    rw c.in_default.is
    (on_ok_weaker c.writeln.result (λ e. (codes "bad", (refl, refl), e))
    c.writeln.ensures.bytes)

pub returns-clause-shown : goal.returns-clause-shown
returns-clause-shown c =
    let command = c.in-Some.command in
    let small =
    left nat_eq (state_of c.args.small.now) (event_of command) (c.in_ok-small_answer.small_answer ∷ []) _
    c.in_ok-small_answer.ensures.answered in
    let large =
    left nat_eq (state_of c.args.large.now) (event_of command) (c.in_ok-large_answer.large_answer ∷ []) _
    c.in_ok-large_answer.ensures.answered in
    let held : TwoLists = (entries_of c.args.small.now, entries_of c.args.large.now) in
    let first : c.in_ok-small_answer.small_answer ≡ answer_to nat_eq held.0 (event_of command) =
    cc (small.answer) in
    let second : c.in_ok-large_answer.large_answer ≡ answer_to nat_eq held.1 (event_of command) =
    cc (large.answer) in
    let shown = ap₂ (λ a b. shown_by decimal a ++ (32 ∷ shown_by decimal b)) first second in
    rw c.in-Some.is
    (on_ok_weaker c.push_answers.result
    (λ e. (
      answers_shown held command,
      (refl, ap₂ (λ a b. (a, b)) small.entries large.entries),
      e ∙ ap (λ text. string_bytes c.args.out.now ++ ended text) shown,
    )) c.push_answers.ensures)
