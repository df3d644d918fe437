use Rattle.hashlink_run.proofs.{Names.{ap, refl, option_map}, Said.said_by}
use Rattle.std.specs.Map.Iter.{deref_pair}
use Rattle.hashlink_run.proofs.commands.said_of.Goals as goal

pub says-requires : goal.says-requires
says-requires g c =
    c.requires.says (c.in_ok-key.key.now, c.in_ok-key.value.now) (ap (option_map deref_pair) c.in_ok-key.was)
    c.in_ok-key.key c.in_ok-key.value refl refl

pub returns : goal.returns
returns g c =
    rw c.in_ok-key.was (said_by c.in_ok-key.key c.in_ok-key.value (record { met = c.says.ensures }))
