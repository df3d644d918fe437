use Rattle.hashlink_map.proofs.cursor.methods.CursorMut+K+V+S.into_entry.Goals as goal

pub invariant_of-result : goal.invariant_of-result
invariant_of-result g c = record { stands = rw c.in_ok-node.was at c.args.self.within }
