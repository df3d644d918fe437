-- What a look-up finds by any test of keys: the key's own, a query's, or a text's.
use Rattle.std.proofs.Common.{◌≡◌, ℕ, Bool, true, false, cond, List, Option, None, refl, sym, ap, ◌∙◌, ⊎_elim}
use Rattle.std.proofs.{Common.{inl, inr, [], ◌∷◌, arith, map, is_some, Some, subst}, Math.Path.fun_ext}
use Rattle.std.specs.{Cmp.Lexicographic.bytes_decides, Option.{UnwrapsOrElse, option_map_or}, Set.is_member}
use Rattle.std.specs.{Map.{AreApart, IsKeyTest, KeepsOthers, keys_of, lookup, set_value}, Prelude.slice_get}
use Rattle.std.specs.{Str.bytes_eq, String.{string_bytes, string_eq}, declared.string.String.String}
use Rattle.std.proofs.lemmas.{Bool.{cases_Bool, cond-true, cond-false}, Cmp.nat_list_eq_equiv}
use Rattle.std.proofs.lemmas.Map.Entries.{place_from_lookup}
use Rattle.hashlink_model.specs.Lookups.{KeepsLookups, UpdatesBy, UpdatesLent}
use Rattle.hashlink_model.proofs.Splits.{splits, lookup-none}
use Rattle.hashlink_map.specs.Texts.{is_text}

module _ {K V : Type 0} (eq : K → K → Bool) where
  -- goal: what a test of keys finds that passes this key, by what the key finds
  pub lookup-tested : (test : K → Bool) → IsKeyTest eq test → (k : K) → test k ≡ true → (es : List (K × V))
      → lookup test es ≡ lookup (eq k) es
  lookup-tested test tells k passes es = ap (λ t. lookup t es) (fun_ext (λ x. tells k x passes))

  -- goal: what any test of keys finds in a list in which each key finds what it found
  pub lookup-by_each : (old new : List (K × V)) → ((q : K) → lookup (eq q) new ≡ lookup (eq q) old)
      → (test : K → Bool) → IsKeyTest eq test → lookup test new ≡ lookup test old
  lookup-by_each old new each test tells =
      let found : (k : K) → test k ≡ true → lookup test new ≡ lookup test old
      = λ k y. lookup-tested test tells k y new ∙ each k ∙ sym (lookup-tested test tells k y old) in
      elim (splits test old) [
        | inl n ↦ (elim (splits test new) [
          | inl m ↦ lookup-none test new m ∙ sym (lookup-none test old n)
          | inr s ↦ found s.1.0 s.3.passes
        ])
        | inr s ↦ found s.1.0 s.3.passes
      ]

  -- goal: what another test of keys finds after a change at those that pass this one
  pub lookup-apart : (test : K → Bool) (old new : List (K × V)) → KeepsOthers eq test old new
      → (other : K → Bool) → IsKeyTest eq other → AreApart test other → lookup other new ≡ lookup other old
  unfolding KeepsOthers
  lookup-apart test old new kept = kept

  -- goal: the look-ups once w was written through what a look-up lent, as by `get_mut`
  pub updates-lent : (test : K → Bool) (old es new : List (K × V)) (w : V) → UpdatesLent eq test old es
      → new ≡ set_value test es w → UpdatesBy eq test old new (Some w)
  updates-lent test old es new w lent is = subst (λ zs. UpdatesBy eq test old zs (Some w)) (sym is) (lent w)

  -- goal: the look-ups after two changes at a test
  pub updates-twice : (test : K → Bool) (old mid new : List (K × V)) (v w : Option V)
      → UpdatesBy eq test old mid v → UpdatesBy eq test mid new w → UpdatesBy eq test old new w
  unfolding KeepsOthers
  updates-twice test old mid new v w first second = (
    λ q. second.0 q ∙ ap (cond (test q) w) (first.0 q) ∙ by (test q) (lookup (eq q) old),
    second.1,
    λ q t. second.2 q t ∙ first.2 q t,
    λ other is apart. second.3 other is apart ∙ first.3 other is apart,
  )
    where
      by : (b : Bool) (o : Option V) → cond b w (cond b v o) ≡ cond b w o
      by true o = refl
      by false o = refl

-- goal: what is read of a value that was found, or else made
pub read-found_or_made : {V B : Type 0} (f : V → B) {b : B} {Makes : V → Type 0} {found o : Option V} {v : V}
    → ((x : V) → Makes x → f x ≡ b) → o ≡ found → UnwrapsOrElse o Makes v → f v ≡ option_map_or f found b
read-found_or_made f {b} {o = None} makes is made = makes _ made ∙ ap (λ o. option_map_or f o b) is
read-found_or_made f {b} {o = Some x} makes is same = ap f same ∙ ap (λ o. option_map_or f o b) is

-- ---- keys that are texts

-- goal: a text tests keys, and passes the `String` with its bytes and no other
pub is_text-tests : {A : Type 0} (text : List ℕ) → IsKeyTest {K = String A} string_eq (is_text text)
is_text-tests text x y = nat_list_eq_equiv.congr text (string_bytes x) (string_bytes y)

-- goal: no key passes two texts that differ
pub texts_apart : {A : Type 0} (text other : List ℕ) → bytes_eq text other ≡ false
    → AreApart {K = String A} (is_text text) (is_text other)
texts_apart text other differ key passes =
    let laws = nat_list_eq_equiv in
    laws.symm other (string_bytes key) ∙ sym (laws.congr text (string_bytes key) other passes)
    ∙ differ

module _ {A V : Type 0} where
  -- goal: a text finds a value if and only if it is among the texts of the keys
  pub is_some-lookup_text : (text : List ℕ) (es : List (String A × V))
      → is_some (lookup (is_text text) es) ≡ is_member bytes_eq (map string_bytes (keys_of es)) text
  is_some-lookup_text text [] = refl
  is_some-lookup_text text (e ∷ es) = grind (arith, is_some-lookup_text text es)

  -- goal: the index of the pair whose value a text finds, and its key, which has the bytes of the text
  pub place-from_text : (text : List ℕ) (es : List (String A × V)) (v : V) → lookup (is_text text) es ≡ Some v
      → (i : ℕ) × (key : String A) × (slice_get es i ≡ Some (key, v)) × (string_bytes key ≡ text)
  place-from_text text es v found =
      let at = place_from_lookup (is_text text) es v found in
      (at.0, at.1, at.2, sym ((bytes_decides text (string_bytes at.1)).0 at.3))

  -- goal: what any text finds after a change at a text: an insert, a removal, or a value that was written
  pub lookup-text_updated : (text : List ℕ) (old new : List (String A × V)) (w : Option V)
      → UpdatesBy string_eq (is_text text) old new w
      → (other : List ℕ)
      → lookup (is_text other) new ≡ cond (bytes_eq text other) w (lookup (is_text other) old)
  lookup-text_updated text old new w updates other =
      ⊎_elim
      (λ same. ap (λ t. lookup (is_text t) new) (sym ((bytes_decides text other).0 same)) ∙ updates.1
      ∙ sym (cond-true (bytes_eq text other) w (lookup (is_text other) old) same))
      (λ differ. lookup-apart string_eq (is_text text) old new updates.3 (is_text other) (is_text-tests other)
      (texts_apart text other differ)
      ∙ sym (cond-false (bytes_eq text other) w (lookup (is_text other) old) differ))
      (cases_Bool (bytes_eq text other))

  -- goal: what any text finds after a move, as by a cache's `get`
  pub lookup-text_kept : (test : String A → Bool) (old new : List (String A × V))
      → KeepsLookups string_eq test old new
      → (other : List ℕ) → lookup (is_text other) new ≡ lookup (is_text other) old
  lookup-text_kept test old new keeps other =
      lookup-by_each string_eq old new keeps.0 (is_text other) (is_text-tests other)

module _ {A V B : Type 0} (f : Option V → B) (text : List ℕ) (old new : List (String A × V)) where
  module _ (w : Option V) (updates : UpdatesBy string_eq (is_text text) old new w) where
    -- goal: what f reads at any text after a change at one text, at which f reads b
    pub read-text_updated : {b : B} → f w ≡ b → (other : List ℕ)
        → f (lookup (is_text other) new) ≡ cond (bytes_eq text other) b (f (lookup (is_text other) old))
    read-text_updated {b} is other =
        ap f (lookup-text_updated text old new w updates other) ∙ by (bytes_eq text other)
      where
        by : (c : Bool)
            → f (cond c w (lookup (is_text other) old)) ≡ cond c b (f (lookup (is_text other) old))
        by true = is
        by false = refl

    -- goal: the same if there it is what it was
    pub read-text_same : f w ≡ f (lookup (is_text text) old) → (other : List ℕ)
        → f (lookup (is_text other) new) ≡ f (lookup (is_text other) old)
    read-text_same is other =
        let read : List ℕ → B = λ t. f (lookup (is_text t) old) in
        let eq = bytes_eq text other in
        read-text_updated is other
        ∙ ⊎_elim
        (λ y. cond-true eq (read text) (read other) y ∙ ap read ((bytes_decides text other).0 y))
        (λ n. cond-false eq (read text) (read other) n) (cases_Bool eq)
