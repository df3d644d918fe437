use Rattle.std.proofs.{Common.{length, map}, lemmas.List.at_drop_all}
use Rattle.hashlink_run.{specs.CacheCalls.{EventStep, event_of}, proofs.Called.{rest_from, runs_from_empty}}
use Rattle.hashlink_run.proofs.Answering.{HasAnswered-none, HasAnswered-more, HasAnswered-all}
use Rattle.hashlink_run.proofs.calls.run_calls.Goals as goal

pub loop-command-init : goal.loop-command-init
loop-command-init g c = rw (c.new-cache.ensures, c.in_ok-replies.ensures.items) (HasAnswered-none _ _ _)

pub loop-command-preserved : goal.loop-command-preserved
loop-command-preserved g c =
    let rest = rest_from event_of c.args.commands.now c.loop-command.command-index _ c.loop-command-test.true
    c.command-item.is in
    let pushed = c.in_ok-push_answer.ensures.answered in
    rw pushed.2
    (HasAnswered-more (EventStep g.K.PartialEq.eq) _ _ _ _ (rw rest at c.loop-command.invariant) pushed.1)

pub returns-clause-ran : goal.returns-clause-ran
returns-clause-ran g c =
    let none = at_drop_all (λ cs. length (map event_of cs)) c.args.commands.now c.loop-command.command-index
    c.loop-command-test.false in
    runs_from_empty g.K.PartialEq.eq _ _ _ _ _ (HasAnswered-all (EventStep g.K.PartialEq.eq) _ none
    c.loop-command.invariant)
