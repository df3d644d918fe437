use Rattle.hashlink_run.proofs.Names.{inl, inr, ap, sym, ◌∙◌, arith, length, into_iter_items, CacheStep}
use Rattle.hashlink_run.proofs.{Names.ClosureSays, CachePasses.cache_within_peak, CachePuts.inserts_fit}
use Rattle.hashlink_run.proofs.Answering.{HasAnswered-none, HasAnswered-more, HasAnswered-all}
use Rattle.hashlink_run.proofs.{CacheLengths.{keeps_bounds, stays_bounded}, CacheSpare.takes_all_after_a_drop}
use Rattle.hashlink_run.proofs.cache_running.run_cache.Goals as goal

pub loop-command-init : goal.loop-command-init
loop-command-init g c =
    let gives = c.into_iter-command-iterator.ensures.into_iter_gives.0 in (
      rw (gives, c.in_ok-replies.ensures.items) (HasAnswered-none _ _ _),
      omega (arith, ap length gives, c.in_ok-replies.ensures.len, c.in_ok-replies.ensures.capacity),
      rw gives c.requires,
    )

pub loop-command-preserved : goal.loop-command-preserved
loop-command-preserved g c =
    let so_far = c.loop-command.invariant in
    let left = c.in-Some.ensures.steps.0 in (
      rw c.push_reserved.ensures.items
          (HasAnswered-more (CacheStep g.K.PartialEq.eq (ClosureSays g.F.Fn c.args.keep.now)) _ _ _ _
          (rw left at so_far.0) c.answer_cache.ensures),
      omega (arith, so_far.1, ap length left, c.push_reserved.ensures.len, c.push_reserved.ensures.capacity),
      λ pair shown. (rw left at so_far.2) pair
          (record {
            comes = inr (record { replies = _; state = _ }, c.answer_cache.ensures, shown.comes);
          }),
    )

pub answer_cache-requires : goal.answer_cache-requires
answer_cache-requires g c = record {
  says = λ pair read.
      (rw c.in-Some.ensures.steps.0 at c.loop-command.invariant.2) pair (record { comes = inl read });
}

pub push_reserved-requires : goal.push_reserved-requires
push_reserved-requires g c = omega (arith, c.loop-command.invariant.1, ap length c.in-Some.ensures.steps.0)

pub returns-clause-ran : goal.returns-clause-ran
returns-clause-ran g c =
    let left = c.loop-command.command-iterator in
    let r =
    HasAnswered-all _ (into_iter_items left) (sym left.rest.ok.0 ∙ c.in-None.ensures.steps.0)
    c.loop-command.invariant.0 in
    record {
      runs = r;
      within_peak = cache_within_peak _ _ _ _ _ r.chain;
      after_a_drop = takes_all_after_a_drop _ _ _ _ _ r.chain;
      bounded = keeps_bounds _ _ _ _ _ r.chain;
      fits = inserts_fit _ _ _ _ _ r.chain;
    }

pub returns-clause-bounded : goal.returns-clause-bounded
returns-clause-bounded g c = stays_bounded _ _ _ _ _ _ (returns-clause-ran g c).runs
