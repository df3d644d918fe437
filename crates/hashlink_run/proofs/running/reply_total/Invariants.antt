use Rattle.hashlink_run.proofs.Names.{◌≡◌, ◌+◌, drop, reply_total}
use Rattle.hashlink_run.proofs.running.reply_total.Given as goal

abbrev pub invariant-loop-command : goal.invariant-loop-command
invariant-loop-command g l = l.total + reply_total (drop l.command-index l.commands) ≡ reply_total l.commands
