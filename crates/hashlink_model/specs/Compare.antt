-- Comparisons of maps and sets, and what they feed to a hasher.
use Rattle.std.specs.{Prelude.{Bool, ◌&&◌, List, ◌++◌, Option, flat_map}, declared.cmp.Ordering.Ordering}
use Rattle.std.specs.Cmp.Lexicographic.{pointwise, slice_cmp, slice_partial_cmp}
use Rattle.std.specs.Ordering.{ordering_then, partial_ordering_then}

module _ {K V : Type 0} where
  -- whether both have the same length, and at each place an equal key and an equal value
  abbrev pub entries_eq : (K → K → Bool) → (V → V → Bool) → List (K × V) → List (K × V) → Bool
  entries_eq eqk eqv = pointwise (λ p q. eqk p.0 q.0 && eqv p.1 q.1)

  -- the order by the first place at which the pairs do not compare as equal, key before value; a proper
  -- beginning is less
  abbrev pub entries_cmp : (K → K → Ordering) → (V → V → Ordering) → List (K × V) → List (K × V) → Ordering
  entries_cmp cmpk cmpv = slice_cmp (λ p q. ordering_then (cmpk p.0 q.0) (cmpv p.1 q.1))

  -- the same with comparisons that may have no result
  abbrev pub entries_partial_cmp : (K → K → Option Ordering) → (V → V → Option Ordering)
      → List (K × V) → List (K × V) → Option Ordering
  entries_partial_cmp cmpk cmpv = slice_partial_cmp
      (λ p q. partial_ordering_then (cmpk p.0 q.0) (cmpv p.1 q.1))

  -- key, value, key, value in order, and no length
  abbrev pub entries_hash_input : {W : Type 0} → (K → List W) → (V → List W) → List (K × V) → List W
  entries_hash_input hashk hashv = flat_map (λ e. hashk e.0 ++ hashv e.1)

-- the same for the elements of a set
abbrev pub elements_eq : {T : Type 0} → (T → T → Bool) → List T → List T → Bool
elements_eq eq = pointwise eq

abbrev pub elements_hash_input : {T W : Type 0} → (T → List W) → List T → List W
elements_hash_input hash = flat_map hash
