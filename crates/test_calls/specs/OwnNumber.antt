-- The hasher whose hash of a number is the number itself.
use Rattle.std.specs.Prelude.{ℕ, ◌+◌, ◌*◌, List, ◌∷◌}

-- the number of the first two bytes
abbrev pub number_of : List ℕ → ℕ
number_of (low ∷ high ∷ _) = low + 256 * high
number_of _ = 0
