use Rattle.hashlink_map.proofs.{Names.{refl, rules}, Taking.last-taken}
use Rattle.hashlink_map.proofs.drain.DrainOfDoubleEndedIterator.next_back.Goals as goal

pub returns-clause-steps : goal.returns-clause-steps
returns-clause-steps g c =
    let is = c.in_ok-pair.ensures in let t = last-taken is in
    record {
      takes = is;
      pops = record { answer = t.0; step = rw t.1 (search rules) };
      same = record { name = refl; rest = c.keep_free.ensures.same };
    }
