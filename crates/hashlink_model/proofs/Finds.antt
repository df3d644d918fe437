-- What a lookup finds: at the key of an entry, and at every other key.
use Rattle.hashlink_model.proofs.Names.{◌≡◌, Bool, true, cond, List, [], ◌∷◌, ◌++◌, None, Some, refl, ap}
use Rattle.hashlink_model.proofs.Names.{arith, option_map, IsEquivalence, lookup, lookup_entry, lookup_key}
use Rattle.hashlink_model.proofs.Names.{NonePasses, IsEntries, without, stored_key}
use Rattle.hashlink_model.proofs.Splits.{lookup_entry-none}
use Rattle.hashlink_model.proofs.Distinct.{none_equal, IsEntries-head, IsEntries-tail}

module _ {K V : Type 0} (test : K → Bool) where
  pub lookup_is : (es : List (K × V)) → lookup test es ≡ option_map (λ e. e.1) (lookup_entry test es)
  lookup_is [] = refl
  lookup_is (e ∷ es) = grind (arith, lookup_is es)

  pub lookup_key_is : (es : List (K × V)) → lookup_key test es ≡ option_map (λ e. e.0) (lookup_entry test es)
  lookup_key_is [] = refl
  lookup_key_is (e ∷ es) = grind (arith, lookup_key_is es)

module _ {K V : Type 0} (eq : K → K → Bool) (laws : IsEquivalence eq) where
  pub stored_key-equal : (k : K) (es : List (K × V)) → eq k (stored_key eq es k) ≡ true
  stored_key-equal k [] = laws.refl k
  stored_key-equal k (e ∷ es) = grind (arith, stored_key-equal k es)

  -- equal keys find the same
  pub lookup-equal : (k q : K) (es : List (K × V)) → eq k q ≡ true → lookup (eq k) es ≡ lookup (eq q) es
  lookup-equal k q [] t = refl
  lookup-equal k q (x ∷ es) t = grind (arith, laws.congr k q x.0 t, lookup-equal k q es t)

  -- ---- with one more entry

  pub lookup_entry-middle : (q : K) (e : K × V) (ys xs : List (K × V)) → NonePasses (eq e.0) (xs ++ ys)
      → lookup_entry (eq q) (xs ++ e ∷ ys) ≡ cond (eq e.0 q) (Some e) (lookup_entry (eq q) (xs ++ ys))
  lookup_entry-middle q e ys [] n = ap (λ b. cond b (Some e) (lookup_entry (eq q) ys)) (laws.symm q e.0)
  lookup_entry-middle q e ys (x ∷ xs) n =
      grind (arith, lookup_entry-middle q e ys xs n.1, n.0, laws.congr e.0 q x.0)

  -- ---- without a key

  pub lookup_entry-without : (q k : K) (es : List (K × V)) → IsEntries eq es
      → lookup_entry (eq q) (without eq es k) ≡ cond (eq k q) None (lookup_entry (eq q) es)
  lookup_entry-without q k [] d = grind arith
  lookup_entry-without q k (e ∷ es) d =
      let gone : eq e.0 q ≡ true → lookup_entry (eq q) es ≡ None
      = λ t. lookup_entry-none (eq q) es (none_equal eq laws e.0 q es t (IsEntries-head eq e es d)) in
      let rest = lookup_entry-without q k es (IsEntries-tail eq e es d) in
      grind (arith, gone, rest, laws.symm q e.0, laws.congr k e.0 q, laws.congr k q e.0)
