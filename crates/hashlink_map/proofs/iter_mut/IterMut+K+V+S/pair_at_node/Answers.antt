use Rattle.hashlink_map.proofs.{Names.{refl, still_standing}, WalkPairs.walk_with_value-is}
use Rattle.hashlink_map.proofs.iter_mut.IterMut+K+V+S.pair_at_node.Goals as goal

pub invariant_of-self-lent : goal.invariant_of-self-lent
invariant_of-self-lent g c w =
    let s = c.args.self.now in (still_standing w s.map.now.nodes _ s.stands, tt)

pub returns : goal.returns
returns g c = (
  (refl, λ w. walk_with_value-is c.args.self.now c.args.node w _),
  record { lends = tt; pair = c.pair_at_mut.ensures.pair },
)
