-- A list without the first of its items that pass a test.
use Rattle.std.specs.Prelude.{ℕ, zero, suc, Bool, cond, List, [], ◌∷◌}

-- the list without the first n items that pass, or without all that pass if there are fewer
abbrev pub without_first : {X : Type 0} → (X → Bool) → ℕ → List X → List X
without_first passes zero xs = xs
without_first passes (suc n) [] = []
without_first passes (suc n) (x ∷ xs) =
    cond (passes x) (without_first passes n xs) (x ∷ without_first passes (suc n) xs)
