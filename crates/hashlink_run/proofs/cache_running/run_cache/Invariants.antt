use Rattle.hashlink_run.proofs.Names.{◌+◌, ◌≤◌, length, vec_len, vec_capacity, into_iter_items, CacheStep}
use Rattle.hashlink_run.{proofs.Names.{CallableOn, ClosureSays}, specs.CacheRun.ShownByCache}
use Rattle.hashlink_run.proofs.Answering.{HasAnswered}
use Rattle.hashlink_lru.specs.Cached.{state_of}
use Rattle.hashlink_run.proofs.cache_running.run_cache.Given as goal

abbrev pub invariant-loop-command : goal.invariant-loop-command
invariant-loop-command g l =
    HasAnswered (CacheStep g.K.PartialEq.eq (ClosureSays g.F.Fn l.keep)) (state_of l.initial.cache)
    (state_of l.cache) l.fn.commands.items (into_iter_items l.command-iterator) l.replies.items
    × (vec_len l.replies + length (into_iter_items l.command-iterator) ≤ vec_capacity l.replies)
    × CallableOn g.F.Fn l.keep (ShownByCache g.K.PartialEq.eq (ClosureSays g.F.Fn l.keep) (state_of l.cache)
    (into_iter_items l.command-iterator))
