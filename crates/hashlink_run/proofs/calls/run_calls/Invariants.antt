use Rattle.std.proofs.Common.{drop, map}
use Rattle.hashlink_core.specs.Hashing.{default_builder}
use Rattle.hashlink_lru.specs.Cached.{empty_cache, state_of}
use Rattle.hashlink_run.{specs.CacheCalls.{EventStep, event_of}, proofs.Answering.HasAnswered}
use Rattle.hashlink_run.proofs.calls.run_calls.Given as goal

abbrev pub invariant-loop-command : goal.invariant-loop-command
invariant-loop-command g l =
    HasAnswered (EventStep g.K.PartialEq.eq) (empty_cache default_builder l.capacity) (state_of l.cache)
    (map event_of l.commands) (map event_of (drop l.command-index l.commands)) l.replies.items
