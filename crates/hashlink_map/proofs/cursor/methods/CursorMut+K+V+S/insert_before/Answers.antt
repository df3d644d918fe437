use Rattle.hashlink_map.proofs.{Names.cursor_node, Walking.same-place}
use Rattle.hashlink_map.proofs.cursor.methods.CursorMut+K+V+S.insert_before.Goals as goal

pub invariant_of-self : goal.invariant_of-self
invariant_of-self g c =
    let s = c.args.self.now in
    record { within = (c.insert_at.ensures.keeps (cursor_node s) s.within).within }

pub returns-clause-inserts : goal.returns-clause-inserts
returns-clause-inserts g c =
    let s = c.args.self.now in
    record {
      map = rw (same-place s.place) c.insert_at.ensures.inserts;
      place = (c.insert_at.ensures.keeps (cursor_node s) s.within).number;
    }
