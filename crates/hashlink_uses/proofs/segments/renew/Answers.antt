use Rattle.hashlink_uses.proofs.segments.renew.Goals as goal

pub returns-in-Some-clause-within : goal.returns-in-Some-clause-within
returns-in-Some-clause-within g c = (c.get_mut.follows.holds c.replace.new.dest).2
