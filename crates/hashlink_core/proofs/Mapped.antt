-- Lists whose elements are seen through a function: the ring's entries as pairs with their nodes, and pairs
-- with nodes as pairs.
use Rattle.hashlink_core.proofs.Names.{◌≡◌, ℕ, zero, suc, Bool, true, false, cond, List, [], ◌∷◌, length}
use Rattle.hashlink_core.proofs.Names.{Option, refl, ap, map, remove_entry, values_of, length-map}
use Rattle.hashlink_core.proofs.Names.{keys_of-map_values, set_value_at, set_key_at, Node, place_number}
use Rattle.hashlink_core.proofs.Names.{renewed_at, pair_with_value, pair_with_key, same-number}

module _ {X Y : Type 0} (f : X → Y) where
  -- the entries, with f of what each node holds
  abbrev pub mapped : List (Node × X) → List (Node × Y)
  mapped = map (λ e. (e.0, f e.1))

  pub length-mapped : (es : List (Node × X)) → length (mapped es) ≡ length es
  length-mapped es = length-map es (λ e. (e.0, f e.1))

  pub place_number-mapped : (es : List (Node × X)) (p : Option Node) → place_number (mapped es) p
      ≡ place_number es p
  place_number-mapped es p = same-number (mapped es) es p (keys_of-map_values f es)

  pub remove_entry-mapped : (test : Node → Bool) (es : List (Node × X))
      → mapped (remove_entry test es) ≡ remove_entry test (mapped es)
  remove_entry-mapped test [] = refl
  remove_entry-mapped test (e ∷ es) =
      elim (test e.0) as (λ b. mapped (cond b es (e ∷ remove_entry test es))
      ≡ cond b (mapped es) ((e.0, f e.1) ∷ remove_entry test (mapped es)))
      [ true ↦ refl | false ↦ ap (λ r. (e.0, f e.1) ∷ r) (remove_entry-mapped test es) ]

  -- if a changes an element, f of it changes by b
  pub renewed-mapped : (a : X → X) (b : Y → Y) → ((x : X) → f (a x) ≡ b (f x))
      → (es : List (Node × X)) (j : ℕ)
      → mapped (renewed_at a es j) ≡ renewed_at b (mapped es) j
  renewed-mapped a b same [] j = refl
  renewed-mapped a b same (e ∷ es) zero = ap (λ y. (e.0, y) ∷ mapped es) (same e.1)
  renewed-mapped a b same (e ∷ es) (suc j) = ap (λ r. (e.0, f e.1) ∷ r) (renewed-mapped a b same es j)

-- ---- the pairs without nodes
module _ {K V : Type 0} where
  pub values-renewed_value : (ns : List (Node × (K × V))) (j : ℕ) (v : V)
      → values_of (renewed_at (pair_with_value v) ns j) ≡ set_value_at (values_of ns) j v
  values-renewed_value [] j v = refl
  values-renewed_value (e ∷ es) zero v = refl
  values-renewed_value (e ∷ es) (suc j) v = ap (λ r. e.1 ∷ r) (values-renewed_value es j v)

  pub values-renewed_key : (ns : List (Node × (K × V))) (j : ℕ) (k : K)
      → values_of (renewed_at (pair_with_key k) ns j) ≡ set_key_at (values_of ns) j k
  values-renewed_key [] j k = refl
  values-renewed_key (e ∷ es) zero k = refl
  values-renewed_key (e ∷ es) (suc j) k = ap (λ r. e.1 ∷ r) (values-renewed_key es j k)
