-- Drains, as contracts see them.
use Rattle.std.specs.{Prelude.{◌≡◌, List, Option}, Map.Iter.{TakesFirst, TakesLast}}
use Rattle.hashlink_model.specs.{MapState.MapState, Steps.{PopsFront, PopsBack}}
use Rattle.hashlink_core.specs.Drained.{state_with}
use Rattle.hashlink_map.specs.{Bounds.{ChainGhosts, DrainableGhosts}, declared.drain.DrainOf.DrainOf}

module _ {C K V D : Type 0} {c : DrainableGhosts C K V} {d : ChainGhosts D K V} where
  -- the entries left
  abbrev pub drain_rest : DrainOf C K V D c d → List (K × V)
  drain_rest i = d.pairs i.chain

  -- the state of the map, as if the entries left still belonged to it
  abbrev pub drained_state : DrainOf C K V D c d → MapState K V c.Hasher
  drained_state i = state_with (c.map_state i.container.now) (drain_rest i)

  -- the drain borrows the same container, of which only the map may have changed
  pub record SameContainer (old new : DrainOf C K V D c d) : Type 0 where
    pub name : new.container.ghost_name ≡ old.container.ghost_name
    pub rest : c.rest new.container.now ≡ c.rest old.container.now

  -- `next` took the first entry left, if any, out of the map, and all else is the same
  pub record DrainSteps (old : DrainOf C K V D c d) (r : Option (K × V)) (new : DrainOf C K V D c d)
      : Type 0 where
    pub takes : TakesFirst (λ p. p) (drain_rest old) r (drain_rest new)
    pub pops : PopsFront (drained_state old) (drained_state new) r
    pub same : SameContainer old new

  -- `next_back` took the last one
  pub record DrainStepsBack (old : DrainOf C K V D c d) (r : Option (K × V)) (new : DrainOf C K V D c d)
      : Type 0 where
    pub takes : TakesLast (λ p. p) (drain_rest old) r (drain_rest new)
    pub pops : PopsBack (drained_state old) (drained_state new) r
    pub same : SameContainer old new
