-- From 16 on a power of two is a multiple of 16.
use Rattle.std.proofs.Common.{arith}
use Rattle.hashlink_table.proofs.Groups.{whole_power}
use Rattle.hashlink_table.proofs.store.bucket.slots_for.Goals as goal

pub returns-clause-grouped : goal.returns-clause-grouped
returns-clause-grouped c =
    whole_power c.next_power_of_two.result c.next_power_of_two.ensures.power
    (omega (arith, c.next_power_of_two.ensures.lower_bound, c.max.ensures))

-- With more than one group, half of the slots are too few.
pub returns-clause-least : goal.returns-clause-least
returns-clause-least c = λ above. omega (
  arith,
  above,
  c.next_power_of_two.ensures.upper_bound,
  c.max.ensures,
  whole_power c.next_power_of_two.result c.next_power_of_two.ensures.power
      (omega (arith, c.next_power_of_two.ensures.lower_bound, c.max.ensures)),
)
