use Rattle.hashlink_uses.proofs.maps.lent_values.write_to_front.Goals as goal

pub returns-in-Some-clause-there : goal.returns-in-Some-clause-there
returns-in-Some-clause-there g c = λ _. c.to_front.follows.holds c.args.value
