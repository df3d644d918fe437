use Rattle.hashlink_map.proofs.Names.{subst, Inserts, state_of, cursor_node}
use Rattle.std.proofs.lemmas.Iterator.Adapters.{option_map_id}
use Rattle.hashlink_map.proofs.cursor.methods.CursorMut+K+V+S.insert_after.Goals as goal

pub invariant_of-self : goal.invariant_of-self
invariant_of-self g c =
    let s = c.args.self.now in
    record { within = (c.insert_at.ensures.keeps (cursor_node s) s.within).within }

pub returns-clause-inserts : goal.returns-clause-inserts
returns-clause-inserts g c =
    let s = c.args.self.now in
    record {
      map =
          subst (λ i. Inserts g.K.PartialEq.eq (state_of s.map.now) (state_of c.insert_at.new.self)
          c.args.key c.args.value i c.insert_at.result)
          (rw (← c.map.view_is, option_map_id) c.next-place.ensures.number) c.insert_at.ensures.inserts;
      place = (c.insert_at.ensures.keeps (cursor_node s) s.within).number;
    }
