-- Closures for the examples of retains, as relations of a call.
use Rattle.std.specs.Prelude.{◌≡◌, ℕ, ◌*◌, ◌%◌, Bool, not, cond, List, [], ◌∷◌, ◌++◌, nat_eq}

abbrev pub is_odd : ℕ → Bool
is_odd n = nat_eq (n % 2) 1

-- pushes an odd key to its list, and returns whether the key is even
abbrev pub PushesOdd : List ℕ → ℕ → ℕ → Bool → ℕ → List ℕ → Type 0
PushesOdd f k v b w g = (b ≡ not (is_odd k)) × (w ≡ v) × (g ≡ cond (is_odd k) (f ++ k ∷ []) f)

-- multiplies the value by ten, and returns whether the key is odd; its number stays
abbrev pub TimesTen : ℕ → ℕ → ℕ → Bool → ℕ → ℕ → Type 0
TimesTen f k v b w g = (b ≡ is_odd k) × (w ≡ v * 10) × (g ≡ f)

abbrev pub one_to_six : List (ℕ × ℕ)
one_to_six = (1, 1) ∷ (2, 2) ∷ (3, 3) ∷ (4, 4) ∷ (5, 5) ∷ (6, 6) ∷ []
