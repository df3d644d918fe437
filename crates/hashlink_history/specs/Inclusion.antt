-- The entries of a smaller cache as an end of a larger one's.
use Rattle.std.specs.{Prelude.{◌≡◌, Bool, true, List, ◌++◌, Option, Some, is_some}, List.AllZip}

module _ {K V : Type 0} (eq : K → K → Bool) where
  -- equal keys; the same with the same value
  abbrev pub SameKey : K × V → K × V → Type 0
  SameKey p q = eq p.0 q.0 ≡ true

  abbrev pub SameEntry : K × V → K × V → Type 0
  SameEntry p q = (eq p.0 q.0 ≡ true) × (p.1 ≡ q.1)

-- `large` has some entries in front, and then as many as `small`, each related by R to the one of `small`
pub record IsEndOf {K V : Type 0} (R : K × V → K × V → Type 0) (small large : List (K × V)) : Type 0 where
  pub front : List (K × V)
  pub back : List (K × V)
  pub is : large ≡ front ++ back
  pub alike : AllZip R small back

-- the results of the two caches for one call: if the smaller one found a value, the larger one found one too;
-- and it found the same value
abbrev pub AlsoFinds : {V : Type 0} → Option V → Option V → Type 0
AlsoFinds small large = is_some small ≡ true → is_some large ≡ true

abbrev pub FindsTheSame : {V : Type 0} → Option V → Option V → Type 0
FindsTheSame {V} small large = (w : V) → small ≡ Some w → large ≡ Some w
