use Rattle.hashlink_map.proofs.{Names.{refl, still_placed}, CursorPairs.cursor_with-is}
use Rattle.hashlink_map.proofs.cursor.methods.CursorMut+K+V+S.pair_at_node.Goals as goal

pub invariant_of-self-lent : goal.invariant_of-self-lent
invariant_of-self-lent g c w =
    let s = c.args.self.now in (still_placed w s.map.now.nodes _ _ s.within, tt)

pub returns : goal.returns
returns g c = (
  (refl, λ w. cursor_with-is c.args.self.now c.args.node w _),
  record { lends = tt; pair = c.pair_at_mut.ensures.pair },
)
