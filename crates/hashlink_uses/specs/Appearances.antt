-- The first appearances of items in a list.
use Rattle.std.specs.{Prelude.{Bool, cond, List, [], ◌∷◌, ◌++◌}, Set.is_member}

-- the items that equal none of `seen` and no item before them, in their order
abbrev pub first_appearances : {X : Type 0} → (X → X → Bool) → List X → List X → List X
first_appearances eq seen [] = []
first_appearances eq seen (x ∷ xs) =
    cond (is_member eq seen x) (first_appearances eq seen xs)
    (x ∷ first_appearances eq (seen ++ x ∷ []) xs)
