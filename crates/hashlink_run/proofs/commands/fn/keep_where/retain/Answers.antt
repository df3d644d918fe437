use Rattle.std.proofs.Common.{refl}
use Rattle.hashlink_run.proofs.Said.{said_by}
use Rattle.hashlink_run.proofs.commands.fn.keep_where.retain.Goals as goal

pub returns : goal.returns
returns g c =
    record { says = said_by c.args.key _ (record { met = c.keep.ensures }); unchanged = (refl, refl) }
