-- Entries with their places as values.
use Rattle.std.specs.Prelude.{◌≡◌, ℕ, List, Some, slice_get}

abbrev pub AreNumbered : {K : Type 0} → List (K × ℕ) → Type 0
AreNumbered {K} es = (k : ℕ) (e : K × ℕ) → slice_get es k ≡ Some e → e.1 ≡ k
