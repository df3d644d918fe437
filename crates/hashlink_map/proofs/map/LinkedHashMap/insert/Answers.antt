use Rattle.hashlink_map.proofs.{Names.guard-number, Outcomes.{inserts_outcome, inserts_added}}
use Rattle.hashlink_map.proofs.map.LinkedHashMap.insert.Goals as goal

pub returns : goal.returns
returns g c =
    let e = c.insert_at.ensures in
    let inserts = rw (guard-number c.args.self.now) at e.inserts in
    let outcome = inserts_outcome _ _ _ _ _ _ _ inserts in
    record {
      inserts = inserts;
      entries = outcome.0;
      updates = e.updates;
      added = inserts_added _ _ _ _ _ _ inserts;
      old = outcome.1;
      there = outcome.2;
      distinct = e.distinct;
    }
