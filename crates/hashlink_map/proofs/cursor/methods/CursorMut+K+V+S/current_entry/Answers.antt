use Rattle.hashlink_map.proofs.cursor.methods.CursorMut+K+V+S.current_entry.Goals as goal

pub invariant_of-result : goal.invariant_of-result
invariant_of-result g c = record { stands = rw c.in-Some.is at c.args.self.within }
