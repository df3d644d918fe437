use Rattle.hashlink_run.proofs.Names.{length, map, refl, EventStep, use_of}
use Rattle.std.proofs.lemmas.List.{at_drop_all}
use Rattle.hashlink_run.proofs.Called.{rest_from, runs_from_empty}
use Rattle.hashlink_run.proofs.CallLaws.{ran-follows, ran-distinct, misses_of_history, bears_comparison}
use Rattle.hashlink_run.proofs.Answering.{HasAnswered-none, HasAnswered-more, HasAnswered-all}
use Rattle.hashlink_run.proofs.calls.run_uses.Goals as goal

pub loop-key-init : goal.loop-key-init
loop-key-init g c = rw (c.new-cache.ensures, c.in_ok-replies.ensures.items) (HasAnswered-none _ _ _)

pub loop-key-preserved : goal.loop-key-preserved
loop-key-preserved g c =
    let rest = rest_from use_of c.args.pairs.now c.loop-key.key-index _ c.loop-key-test.true
    c.loop-key-item.is in
    let pushed = c.in_ok-push_answer.ensures.answered in
    rw pushed.2
    (HasAnswered-more (EventStep g.K.PartialEq.eq) _ _ _ _ (rw rest at c.loop-key.invariant) pushed.1)

pub returns-clause-ran : goal.returns-clause-ran
returns-clause-ran g c =
    let none = at_drop_all (λ ps. length (map use_of ps)) c.args.pairs.now c.loop-key.key-index
    c.loop-key-test.false in
    runs_from_empty g.K.PartialEq.eq _ _ _ _ _ (HasAnswered-all (EventStep g.K.PartialEq.eq) _ none
    c.loop-key.invariant)

pub returns-clause-history : goal.returns-clause-history
returns-clause-history g c = ran-follows g.K.PartialEq.eq g.met.K.Eq.laws _ _ _ _ _ (returns-clause-ran g c)

pub returns-clause-distinct : goal.returns-clause-distinct
returns-clause-distinct g c = ran-distinct g.K.PartialEq.eq g.met.K.Eq.laws _ _ _ _ _ (returns-clause-ran g c)

pub returns-clause-misses : goal.returns-clause-misses
returns-clause-misses g c =
    misses_of_history g.K.PartialEq.eq g.met.K.Eq.laws _ c.args.pairs.now _ (returns-clause-ran g c).answered

pub returns-clause-comparison : goal.returns-clause-comparison
returns-clause-comparison g c =
    bears_comparison g.K.PartialEq.eq g.met.K.Eq.laws _ c.args.pairs.now _ (returns-clause-ran g c).answered

pub returns-clause-none : goal.returns-clause-none
returns-clause-none g c = λ none. refl
