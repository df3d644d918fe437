-- The texts of errors of an insert: no value was made, or memory for it was lacking.
use Rattle.std.specs.{Prelude.{ℕ, List, ◌++◌, codes, Option, Some}, Option.option_map}
use Rattle.hashlink_map.specs.declared.try_insert_error.TryInsertError.{TryInsertError}
use Rattle.hashlink_map.specs.declared.try_insert_error.TryInsertError.TheVariants.{Make, Memory}

-- the text of a closure's error is given by `shown`, if at all
abbrev pub try_insert_shown : {K V E : Type 0} → (E → Option (List ℕ)) → TryInsertError K V E
    → Option (List ℕ)
try_insert_shown shown (Make _ error) =
    option_map (λ text. codes "the value could not be made: " ++ text) (shown error)
try_insert_shown shown (Memory _) = Some (codes "memory allocation failed")
