use Rattle.hashlink_run.proofs.{Names.{drop, map, empty_cache, EventStep, use_of}, Answering.HasAnswered}
use Rattle.hashlink_core.specs.Hashing.{default_builder}
use Rattle.hashlink_lru.specs.Cached.{state_of}
use Rattle.hashlink_run.proofs.calls.run_uses.Given as goal

abbrev pub invariant-loop-key : goal.invariant-loop-key
invariant-loop-key g l =
    HasAnswered (EventStep g.K.PartialEq.eq) (empty_cache default_builder l.capacity) (state_of l.cache)
    (map use_of l.pairs) (map use_of (drop l.key-index l.pairs)) l.replies.items
