use Rattle.std.proofs.Common.{None, Some, refl}
use Rattle.hashlink_set.proofs.iterators.next_of_two.Goals as goal

pub returns-in-Some : goal.returns-in-Some
returns-in-Some g c = (Some c.in-Some.item, c.in-Some.ensures.steps, (refl, refl))

pub returns : goal.returns
returns g c = (None, c.in_default.ensures.steps, c.next-2.ensures.steps)
