use Rattle.hashlink_run.proofs.Names.{inl, inr, ap, sym, ◌∙◌, arith, into_iter_items, reply_total}
use Rattle.hashlink_run.proofs.Chains.{spare_at_the_end, stays_within_peak, takes_keys_where_shorter}
use Rattle.hashlink_run.proofs.Answering.{HasAnswered-none, HasAnswered-more, HasAnswered-all}
use Rattle.hashlink_run.proofs.running.run.Goals as goal

pub loop-command-init : goal.loop-command-init
loop-command-init g c =
    let gives = c.into_iter-command-iterator.ensures.into_iter_gives.0 in (
      rw (gives, c.in_ok-replies.ensures.items) (HasAnswered-none _ _ _),
      omega (
        arith,
        ap reply_total gives,
        c.in_ok-replies.ensures.len,
        c.in_ok-replies.ensures.capacity,
        c.in_ok-reply_total.ensures.total,
        ap reply_total c.deref.ensures.value,
      ),
      rw gives c.requires,
    )

pub loop-command-preserved : goal.loop-command-preserved
loop-command-preserved g c =
    let so_far = c.loop-command.invariant in
    let left = c.in-Some.ensures.steps.0 in
    let ensures = c.answer_in_room.ensures in
    let answered = ensures.answered in (
      rw answered.2 (HasAnswered-more _ _ _ _ _ (rw left at so_far.0) answered.1),
      omega (arith, so_far.1, ap reply_total left, ensures.count, ensures.capacity),
      λ pair shown. (rw left at so_far.2) pair
          (record { comes = inr (record { replies = _; state = _ }, answered.1, shown.comes) }),
    )

pub answer_in_room-requires-clause-says : goal.answer_in_room-requires-clause-says
answer_in_room-requires-clause-says g c = λ pair read.
    (rw c.in-Some.ensures.steps.0 at c.loop-command.invariant.2) pair (record { comes = inl (inl read) })

pub answer_in_room-requires-clause-keep : goal.answer_in_room-requires-clause-keep
answer_in_room-requires-clause-keep g c = λ pair asked.
    (rw c.in-Some.ensures.steps.0 at c.loop-command.invariant.2) pair (record { comes = inl (inr asked) })

pub answer_in_room-requires-clause-room : goal.answer_in_room-requires-clause-room
answer_in_room-requires-clause-room g c =
    omega (arith, c.loop-command.invariant.1, ap reply_total c.in-Some.ensures.steps.0)

pub returns-clause-ran : goal.returns-clause-ran
returns-clause-ran g c =
    let left = c.loop-command.command-iterator in
    let r =
    HasAnswered-all _ (into_iter_items left) (sym left.rest.ok.0 ∙ c.in-None.ensures.steps.0)
    c.loop-command.invariant.0 in
    record {
      runs = r;
      within_peak = stays_within_peak _ _ _ _ _ _ r.chain;
      shorter = takes_keys_where_shorter _ _ _ _ _ _ r.chain;
    }

pub returns-clause-spare : goal.returns-clause-spare
returns-clause-spare g c = spare_at_the_end _ _ _ _ _ _ _ (returns-clause-ran g c).runs

pub returns-in_err-reply_total-clause-none : goal.returns-in_err-reply_total-clause-none
returns-in_err-reply_total-clause-none g c = λ none.
    absurd (omega (arith, c.in_err-reply_total.ensures.above, ap reply_total c.deref.ensures.value))

pub returns-in_err-replies-clause-none : goal.returns-in_err-replies-clause-none
returns-in_err-replies-clause-none g c = λ none.
    let total = c.in_ok-reply_total.ensures.total ∙ ap reply_total c.deref.ensures.value ∙ none in
    absurd (let failed = c.in_err-replies.ensures.succeeds total in cc)
