use Rattle.hashlink_core.proofs.Walk.{walk-of_all}
use Rattle.hashlink_core.proofs.iter.Iter.new.Goals as goal

pub invariant_of-result : goal.invariant_of-result
invariant_of-result g c =
    (walk-of_all _ _ c.next.result c.prev.result _ _ _ _ _ c.next.ensures.apart c.next.ensures.place
    c.unwrap_or.ensures c.prev.ensures.place c.unwrap_or-2.ensures c.len.ensures.len).0

pub returns-clause-rest : goal.returns-clause-rest
returns-clause-rest g c =
    (walk-of_all _ _ c.next.result c.prev.result _ _ _ _ _ c.next.ensures.apart c.next.ensures.place
    c.unwrap_or.ensures c.prev.ensures.place c.unwrap_or-2.ensures c.len.ensures.len).1
