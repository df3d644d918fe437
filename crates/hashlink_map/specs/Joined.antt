-- Two lists of entries, such as those of two caches.
use Rattle.std.specs.{Prelude.{◌≡◌, ◌++◌, Bool, IsSome, List, None}, Map.lookup}

module _ {K V : Type 0} (eq : K → K → Bool) where
  -- no key of the first list is in the second
  abbrev pub ShareNoKey : List (K × V) → List (K × V) → Type 0
  ShareNoKey xs ys = (q : K) → IsSome (lookup (eq q) xs) → lookup (eq q) ys ≡ None

  -- they share no key, and each key finds in them what it finds in the list zs
  abbrev pub AreParts : List (K × V) → List (K × V) → List (K × V) → Type 0
  AreParts xs ys zs = ShareNoKey xs ys × ((q : K) → lookup (eq q) (xs ++ ys) ≡ lookup (eq q) zs)
