use Rattle.hashlink_map.specs.WritingWalk.{StandsIn}
use Rattle.hashlink_map.proofs.debug.IterMutDebug.fmt.Given as goal

-- the places not yet shown are in the map
abbrev pub invariant-loop : goal.invariant-loop
invariant-loop g l = StandsIn (λ n. n) l.self.map.now.nodes l.places
