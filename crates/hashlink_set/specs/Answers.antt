-- A set's results as those of its map.
use Rattle.std.specs.{Prelude.{Bool, cond, Option, None, Some}, Option.option_map}

-- a returned element, as an entry
abbrev pub as_entry : {T : Type 0} → Option T → Option (T × Unit {0})
as_entry = option_map (λ t. (t, tt))

-- whether an element was present, as a value
abbrev pub as_value : Bool → Option (Unit {0})
as_value b = cond b (Some tt) None
