use Rattle.hashlink_set.proofs.LentLast.{inserted}
use Rattle.hashlink_set.proofs.set.LinkedHashSet.put_last.Goals as goal

pub returns-clause-puts : goal.returns-clause-puts
returns-clause-puts g c =
    rw c.err-refused.ensures.value
    (inserted g.T.PartialEq.eq c.args.self.now c.insert.new.self c.args.value c.insert.result
    c.insert.ensures.inserts)
