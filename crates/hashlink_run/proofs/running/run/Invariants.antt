use Rattle.hashlink_run.proofs.Names.{◌+◌, ◌≤◌, vec_len, vec_capacity, into_iter_items, CallableOn}
use Rattle.hashlink_run.{proofs.Names.{ClosureSays, reply_total, Step}, specs.Run.ShownBy}
use Rattle.hashlink_run.proofs.Answering.{HasAnswered}
use Rattle.hashlink_core.specs.Keyed.{state_of}
use Rattle.hashlink_run.proofs.running.run.Given as goal

abbrev pub invariant-loop-command : goal.invariant-loop-command
invariant-loop-command g l =
    HasAnswered (Step g.K.PartialEq.eq (ClosureSays g.F.Fn l.keep) (ClosureSays g.F.Fn l.keep))
    (state_of l.initial.map) (state_of l.map)
    l.fn.commands.items (into_iter_items l.command-iterator) l.replies.items
    × (vec_len l.replies + reply_total (into_iter_items l.command-iterator) ≤ vec_capacity l.replies)
    × CallableOn g.F.Fn l.keep
    (ShownBy g.K.PartialEq.eq (ClosureSays g.F.Fn l.keep) (ClosureSays g.F.Fn l.keep) (state_of l.map)
    (into_iter_items l.command-iterator))
