use Rattle.hashlink_uses.proofs.caches.use_and_write.Goals as goal

pub returns-in-Some-clause-there : goal.returns-in-Some-clause-there
returns-in-Some-clause-there g c = λ _. (c.get_mut.follows.holds c.args.value).1
