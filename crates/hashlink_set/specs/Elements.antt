-- The elements of a set, by its map.
use Rattle.std.specs.Prelude.{List}
use Rattle.hashlink_model.specs.Sets.{elements_of}
use Rattle.hashlink_core.specs.Keyed.{Keyed, state_of}

-- the elements of the set that has this map, front first
abbrev pub elements_in : {T S : Type 0} → Keyed T (Unit {0}) S → List T
elements_in m = elements_of (state_of m)
