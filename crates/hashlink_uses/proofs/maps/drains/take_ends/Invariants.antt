use Rattle.hashlink.{proofs.Taking.Kept, specs.MapDrain.drained_state}
use Rattle.hashlink_uses.proofs.Common.{◌≡◌, state_of}
use Rattle.hashlink_uses.proofs.maps.drains.take_ends.Given as goal

-- the same map, and each entry left was there at the start
abbrev pub invariant-loop : goal.invariant-loop
invariant-loop g l =
    (l.drain.container.ghost_name ≡ l.initial.drain.container.ghost_name)
    × Kept (state_of l.fn.map) (drained_state l.drain)

abbrev pub invariant-loop-2 : goal.invariant-loop-2
invariant-loop-2 g l =
    (l.drain.container.ghost_name ≡ l.initial.drain.container.ghost_name)
    × Kept (state_of l.fn.map) (drained_state l.drain)
