use Rattle.std.proofs.{Common.{ap, arith}, lemmas.List.at_drop_more}
use Rattle.hashlink_run.specs.Run.{reply_count, reply_total}
use Rattle.hashlink_run.proofs.running.reply_total.Goals as goal

pub loop-command-preserved : goal.loop-command-preserved
loop-command-preserved g c =
    let more =
    at_drop_more reply_total c.args.commands.now c.loop-command.command-index c.command-item.result
    c.loop-command-test.true in
    omega (arith, more, ap reply_count c.command-item.is, c.loop-command.invariant, c.in-Some.ensures)

pub returns-in_default-clause-above : goal.returns-in_default-clause-above
returns-in_default-clause-above g c =
    let more =
    at_drop_more reply_total c.args.commands.now c.loop-command.command-index c.command-item.result
    c.loop-command-test.true in
    omega (arith, more, ap reply_count c.command-item.is, c.loop-command.invariant)
