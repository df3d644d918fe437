-- Comparisons of maps, and what a map feeds to a hasher: both depend on its entries only.
use Rattle.std.specs.Cmp.{IsEquivalence, IsPartialEquivalence, IsPartialOrder, IsTotalOrder, on_equiv, on_per}
use Rattle.std.specs.{Prelude.{◌≡◌, Bool, true, List, Option, Some}, Ordering.eq_by_cmp}
use Rattle.std.specs.{Cmp.{on_po, on_total, partial_equiv_from_equiv}, declared.cmp.Ordering.Ordering}
use Rattle.hashlink_model.specs.Compare.{entries_eq, entries_cmp, entries_partial_cmp, entries_hash_input}
use Rattle.hashlink_model.proofs.Comparisons as compared
use Rattle.hashlink_core.specs.Keyed.{Keyed, entries_of}

module _ {K V S : Type 0} where
  abbrev pub maps_eq : (K → K → Bool) → (V → V → Bool) → Keyed K V S → Keyed K V S → Bool
  maps_eq eqk eqv a b = entries_eq eqk eqv (entries_of a) (entries_of b)

  abbrev pub maps_cmp : (K → K → Ordering) → (V → V → Ordering) → Keyed K V S → Keyed K V S → Ordering
  maps_cmp cmpk cmpv a b = entries_cmp cmpk cmpv (entries_of a) (entries_of b)

  abbrev pub maps_partial_cmp : (K → K → Option Ordering) → (V → V → Option Ordering)
      → Keyed K V S → Keyed K V S
      → Option Ordering
  maps_partial_cmp cmpk cmpv a b = entries_partial_cmp cmpk cmpv (entries_of a) (entries_of b)

  abbrev pub map_hash_input : {W : Type 0} → (K → List W) → (V → List W) → Keyed K V S → List W
  map_hash_input hashk hashv m = entries_hash_input hashk hashv (entries_of m)

  pub maps_equiv : {eqk : K → K → Bool} {eqv : V → V → Bool} → IsEquivalence eqk → IsEquivalence eqv
      → IsEquivalence (maps_eq eqk eqv)
  maps_equiv {eqk} {eqv} a b = on_equiv entries_of (compared.entries_eq_equiv eqk eqv a b)

  pub maps_per : {eqk : K → K → Bool} {eqv : V → V → Bool} → IsEquivalence eqk → IsPartialEquivalence eqv
      → IsPartialEquivalence (maps_eq eqk eqv)
  maps_per {eqk} {eqv} a b =
      on_per entries_of (compared.entries_eq_partial eqk eqv (partial_equiv_from_equiv a) b)

  pub maps_po : {eqk : K → K → Bool} {eqv : V → V → Bool} {partk : K → K → Option Ordering}
      {partv : V → V → Option Ordering}
      → IsPartialOrder eqk partk → IsPartialOrder eqv partv
      → IsPartialOrder (maps_eq eqk eqv) (maps_partial_cmp partk partv)
  maps_po {eqk} {eqv} {partk} {partv} a b =
      on_po entries_of (compared.entries_partial_order eqk eqv partk partv a b)

  pub maps_total : {cmpk : K → K → Ordering} {cmpv : V → V → Ordering} → IsTotalOrder cmpk → IsTotalOrder cmpv
      → IsTotalOrder (maps_cmp cmpk cmpv)
  maps_total {cmpk} {cmpv} a b = on_total entries_of (compared.entries_cmp_total cmpk cmpv a b)

  pub maps_agree : {partk : K → K → Option Ordering} {partv : V → V → Option Ordering}
      {cmpk : K → K → Ordering}
      {cmpv : V → V → Ordering}
      → ((x y : K) → partk x y ≡ Some (cmpk x y)) → ((x y : V) → partv x y ≡ Some (cmpv x y))
      → (m n : Keyed K V S) → maps_partial_cmp partk partv m n ≡ Some (maps_cmp cmpk cmpv m n)
  maps_agree {partk} {partv} {cmpk} {cmpv} a b m n =
      compared.entries_partial partk partv cmpk cmpv a b (entries_of m) (entries_of n)

  pub maps_tie : {eqk : K → K → Bool} {eqv : V → V → Bool} (cmpk : K → K → Ordering) (cmpv : V → V → Ordering)
      → ((x y : K) → eqk x y ≡ eq_by_cmp cmpk x y) → ((x y : V) → eqv x y ≡ eq_by_cmp cmpv x y)
      → (m n : Keyed K V S) → maps_eq eqk eqv m n ≡ eq_by_cmp (maps_cmp cmpk cmpv) m n
  maps_tie {eqk} {eqv} cmpk cmpv a b m n =
      compared.entries_ties eqk eqv cmpk cmpv a b (entries_of m) (entries_of n)

  pub maps_alike : {W : Type 0} {eqk : K → K → Bool} {eqv : V → V → Bool} {hashk : K → List W}
      {hashv : V → List W}
      → ((x y : K) → eqk x y ≡ true → hashk x ≡ hashk y) → ((x y : V) → eqv x y ≡ true → hashv x ≡ hashv y)
      → (m n : Keyed K V S) → maps_eq eqk eqv m n ≡ true
      → map_hash_input hashk hashv m ≡ map_hash_input hashk hashv n
  maps_alike {W} {eqk} {eqv} {hashk} {hashv} a b m n =
      compared.entries_alike eqk eqv hashk hashv a b (entries_of m) (entries_of n)
