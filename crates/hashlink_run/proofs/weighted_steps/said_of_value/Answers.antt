use Rattle.std.{proofs.Common.{ap, option_copied, refl}, specs.Option.option_map}
use Rattle.hashlink_run.proofs.Said.{said_by}
use Rattle.hashlink_run.proofs.weighted_steps.said_of_value.Goals as goal

pub says-requires : goal.says-requires
says-requires g c =
    c.requires.says (c.args.key.now, c.in_ok-value.value.now)
    (ap (λ o. option_map (λ v. (c.args.key.now, v)) (option_copied o)) c.in_ok-value.was)
    c.args.key c.in_ok-value.value refl refl

pub returns : goal.returns
returns g c =
    rw c.in_ok-value.was (said_by c.args.key c.in_ok-value.value (record { met = c.says.ensures }))
