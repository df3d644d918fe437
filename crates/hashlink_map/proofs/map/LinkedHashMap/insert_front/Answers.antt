use Rattle.hashlink_map.proofs.Outcomes.{inserts_outcome}
use Rattle.hashlink_map.proofs.map.LinkedHashMap.insert_front.Goals as goal

pub returns : goal.returns
returns g c =
    let e = c.insert_at.ensures in
    let inserts = rw (rw c.self.view_is at c.front-first.ensures.place.number) at e.inserts in
    let outcome = inserts_outcome _ _ _ _ _ _ _ inserts in
    record {
      inserts = inserts;
      entries = outcome.0;
      updates = e.updates;
      old = outcome.1;
      there = outcome.2;
      distinct = e.distinct;
    }
