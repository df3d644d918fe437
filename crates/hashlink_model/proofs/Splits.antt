-- A list of entries, split at the first key that passes a test: `xs ++ e ∷ ys`, in which e passes and none of
-- xs does. Or no key passes.
use Rattle.hashlink_model.proofs.Names.{◌≡◌, ℕ, Bool, true, false, List, [], ◌∷◌, ◌++◌, length, None, Some}
use Rattle.hashlink_model.proofs.Names.{◌⊎◌, inl, inr, refl, sym, ap, ◌∙◌, lookup, lookup_entry, lookup_key}
use Rattle.hashlink_model.proofs.Names.{remove_entry, set_value, NonePasses, same_Some, place_of, IsKeyTest}
use Rattle.std.proofs.{Common.add-one, lemmas.Map.none_passes_from_lookup, Math.Path.fun_ext}
pub use Rattle.std.proofs.lemmas.Map.{lookup-none}

module _ {K V : Type 0} (test : K → Bool) where
  -- e is the first entry of es whose key passes, xs is before it and ys after it
  pub record StandsAt (es xs : List (K × V)) (e : K × V) (ys : List (K × V)) : Type 0 where
    pub is : es ≡ xs ++ e ∷ ys
    pub passes : test e.0 ≡ true
    pub before : NonePasses test xs

  -- some key passes
  abbrev pub Stands : List (K × V) → Type 0
  Stands es = (xs : List (K × V)) × (e : K × V) × (ys : List (K × V)) × StandsAt es xs e ys

  either_by : (x : K × V) (es : List (K × V)) (b : Bool) → test x.0 ≡ b → NonePasses test es ⊎ Stands es
      → NonePasses test (x ∷ es) ⊎ Stands (x ∷ es)
  either_by x es true t s = inr ([], x, es, record { is = refl; passes = t; before = tt })
  either_by x es false t (inl n) = inl (t, n)
  either_by x es false t (inr s) =
      let later = ap (λ r. x ∷ r) s.3.is in
      inr (x ∷ s.0, s.1, s.2, record { is = later; passes = s.3.passes; before = (t, s.3.before) })

  -- no key passes, or the list is split at the first one that does
  pub splits : (es : List (K × V)) → NonePasses test es ⊎ Stands es
  splits [] = inl tt
  splits (x ∷ es) = either_by x es (test x.0) refl (splits es)

  -- ---- if no key passes

  pub place_of-none : (es : List (K × V)) → NonePasses test es → place_of test es ≡ None
  place_of-none [] n = refl
  place_of-none (x ∷ es) n = rw (n.0, place_of-none es n.1) refl

  pub lookup_entry-none : (es : List (K × V)) → NonePasses test es → lookup_entry test es ≡ None
  lookup_entry-none [] n = refl
  lookup_entry-none (x ∷ es) n = rw n.0 (lookup_entry-none es n.1)

  pub lookup_key-none : (es : List (K × V)) → NonePasses test es → lookup_key test es ≡ None
  lookup_key-none [] n = refl
  lookup_key-none (x ∷ es) n = rw n.0 (lookup_key-none es n.1)

  pub remove_entry-none : (es : List (K × V)) → NonePasses test es → remove_entry test es ≡ es
  remove_entry-none [] n = refl
  remove_entry-none (x ∷ es) n = rw n.0 (ap (λ r. x ∷ r) (remove_entry-none es n.1))

  pub set_value-none : (es : List (K × V)) (v : V) → NonePasses test es → set_value test es v ≡ es
  set_value-none [] v n = refl
  set_value-none (x ∷ es) v n = rw n.0 (ap (λ r. x ∷ r) (set_value-none es v n.1))

  -- ---- if e is the first entry whose key passes

  module _ (e : K × V) (ys : List (K × V)) (t : test e.0 ≡ true) where
    pub place_of-here : (xs : List (K × V)) → NonePasses test xs → place_of test (xs ++ e ∷ ys)
        ≡ Some (length xs)
    place_of-here [] n = rw t refl
    place_of-here (x ∷ xs) n = rw (n.0, place_of-here xs n.1) (ap Some (add-one (length xs)))

    pub lookup_entry-here : (xs : List (K × V)) → NonePasses test xs
        → lookup_entry test (xs ++ e ∷ ys) ≡ Some e
    lookup_entry-here [] n = rw t refl
    lookup_entry-here (x ∷ xs) n = rw n.0 (lookup_entry-here xs n.1)

    pub lookup_key-here : (xs : List (K × V)) → NonePasses test xs → lookup_key test (xs ++ e ∷ ys) ≡ Some e.0
    lookup_key-here [] n = rw t refl
    lookup_key-here (x ∷ xs) n = rw n.0 (lookup_key-here xs n.1)

    pub lookup-here : (xs : List (K × V)) → NonePasses test xs → lookup test (xs ++ e ∷ ys) ≡ Some e.1
    lookup-here [] n = rw t refl
    lookup-here (x ∷ xs) n = rw n.0 (lookup-here xs n.1)

    pub remove_entry-here : (xs : List (K × V)) → NonePasses test xs
        → remove_entry test (xs ++ e ∷ ys) ≡ xs ++ ys
    remove_entry-here [] n = rw t refl
    remove_entry-here (x ∷ xs) n = rw n.0 (ap (λ r. x ∷ r) (remove_entry-here xs n.1))

    pub set_value-here : (v : V) (xs : List (K × V)) → NonePasses test xs
        → set_value test (xs ++ e ∷ ys) v ≡ xs ++ (e.0, v) ∷ ys
    set_value-here v [] n = rw t refl
    set_value-here v (x ∷ xs) n = rw n.0 (ap (λ r. x ∷ r) (set_value-here v xs n.1))

  -- ---- from the result of a lookup

  pub none_from_lookup : (es : List (K × V)) → lookup test es ≡ None → NonePasses test es
  none_from_lookup es l = none_passes_from_lookup test es l

  pub stands_from_lookup : (es : List (K × V)) (w : V) → lookup test es ≡ Some w → Stands es
  stands_from_lookup es w l = elim (splits es) [ inl n ↦ absurd (cc (lookup-none test es n)) | inr s ↦ s ]

  pub stands_from_place : (es : List (K × V)) (j : ℕ) → place_of test es ≡ Some j
      → (xs : List (K × V)) × (e : K × V) × (ys : List (K × V)) × StandsAt es xs e ys × (length xs ≡ j)
  stands_from_place es j p = elim (splits es) [
    | inl n ↦ absurd (cc (place_of-none es n))
    | inr s ↦ (
        let here = place_of-here s.1 s.2 s.3.passes s.0 s.3.before in
        (s.0, s.1, s.2, s.3, same_Some (length s.0) j (sym here ∙ ap (place_of test) (sym s.3.is) ∙ p)))
  ]

  -- ---- a test of keys that passes a key is the equality with it

  module _ (eq : K → K → Bool) (tells : IsKeyTest eq test) (es : List (K × V)) where
    pub key_from_lookup : (w : V) → lookup test es ≡ Some w → (k : K) × (test ≡ eq k)
    key_from_lookup w l =
        let s = stands_from_lookup es w l in (s.1.0, fun_ext (λ y. tells s.1.0 y s.3.passes))

    pub key_from_place : (j : ℕ) → place_of test es ≡ Some j → (k : K) × (test ≡ eq k)
    key_from_place j p =
        let s = stands_from_place es j p in (s.1.0, fun_ext (λ y. tells s.1.0 y s.3.passes))
