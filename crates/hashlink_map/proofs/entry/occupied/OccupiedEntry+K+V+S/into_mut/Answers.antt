use Rattle.std.proofs.Common.{refl}
use Rattle.hashlink_map.proofs.Written.{is_written}
use Rattle.hashlink_map.proofs.entry.occupied.OccupiedEntry+K+V+S.into_mut.Goals as goal

pub returns : goal.returns
returns g c = (
  (refl, λ w. refl),
  record { lends = tt; value = c.value_at_mut.ensures.value; written = is_written c.args.self },
)
