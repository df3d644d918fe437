use Rattle.hashlink.{specs.Cached.state_of, proofs.Extending.inserted_fits}
use Rattle.hashlink_uses.proofs.caches.insert_both.Goals as goal

pub returns-clause-within : goal.returns-clause-within
returns-clause-within g c = λ n within.
    c.insert.ensures.within n (c.insert-answer.ensures.within n within)

pub returns-clause-fits : goal.returns-clause-fits
returns-clause-fits g c =
    inserted_fits g.K.PartialEq.eq (state_of c.insert-answer.new.self)
    (state_of c.insert.new.self) c.args.second
    c.insert.result c.insert.ensures.inserts
