-- Lists of entries, written out, and what a key finds in them. The comment over each lemma names the goal
-- that it closes.
use Rattle.std.proofs.Common.{◌≡◌, ℕ, Bool, true, false, cond, List, [], ◌∷◌, ◌++◌, length, Option, None}
use Rattle.std.proofs.Common.{Some, refl, sym, ap, subst, ◌∙◌, arith, zero, suc, inl, inr, is_some, drop}
use Rattle.std.proofs.Common.{◌⊎◌}
use Rattle.std.proofs.lemmas.List.{map-append}
use Rattle.std.proofs.lemmas.Map.{NonePasses, keys-set_value}
use Rattle.std.proofs.lemmas.Map.Made.{is_some-lookup}
use Rattle.std.proofs.lemmas.Option.{none-some, same_Some}
use Rattle.std.specs.Cmp.{IsEquivalence}
use Rattle.std.specs.Map.{lookup_entry, lookup, keys_of, set_value}
use Rattle.std.specs.Map.Iter.{TakesFirst}
use Rattle.std.specs.Option.{option_or, option_map_or}
use Rattle.std.specs.Prelude.{slice_get, MatchOption, unwrap_or}
use Rattle.std.specs.Set.{is_member}
use Rattle.hashlink_model.proofs.Distinct.{IsEntries-head, none_equal}
use Rattle.hashlink_model.proofs.Finds.{stored_key-equal}
use Rattle.hashlink_model.proofs.Puts.{put_back_absent, put_at_its_place}
use Rattle.hashlink_model.proofs.Splits.{lookup-none, splits, lookup-here, Stands}
use Rattle.hashlink_model.proofs.Splits.{place_of-none, place_of-here}
use Rattle.hashlink_model.specs.Entries.{IsEntries, put, place_of, place_or_end}
use Rattle.hashlink_model.specs.Entries.{set_key_at, stored_key}
use Rattle.hashlink_model.specs.Entry.{key_at}
use Rattle.hashlink_model.specs.Walk.{first_of}

-- ---- lists of entries, written out

-- goal: a list by its first item, as `front` and `peek_lru` return it
pub by_first : {X : Type 0} (xs : List X) (o : Option X) → o ≡ first_of xs
    → MatchOption o (xs ≡ []) (λ x. xs ≡ x ∷ drop 1 xs)
by_first [] None is = refl
by_first [] (Some x) is = absurd (none-some x (sym is))
by_first (y ∷ xs) None is = absurd (none-some y is)
by_first (y ∷ xs) (Some x) is = ap (λ z. z ∷ xs) (same_Some y x (sym is))

module _ {X : Type 0} where
  -- goal: an item of a list to which one is added at its end, and the added item
  pub slice_get-push : (xs : List X) (x y : X) (k : ℕ) → slice_get (xs ++ x ∷ []) k ≡ Some y
      → (slice_get xs k ≡ Some y) ⊎ ((k ≡ length xs) × (y ≡ x))
  slice_get-push [] x y zero at = inr (refl, same_Some y x (sym at))
  slice_get-push [] x y (suc k) at = absurd (none-some y at)
  slice_get-push (z ∷ xs) x y zero at = inl at
  slice_get-push (z ∷ xs) x y (suc k) at =
      elim (slice_get-push xs x y k at) [ inl old ↦ inl old | inr new ↦ inr (ap suc new.0, new.1) ]

  pub slice_get-pushed : (xs : List X) (x : X) → slice_get (xs ++ x ∷ []) (length xs) ≡ Some x
  slice_get-pushed [] x = refl
  slice_get-pushed (z ∷ xs) x = slice_get-pushed xs x

module _ {K V : Type 0} where
  -- goal: `lookup` in one list of entries behind another
  pub lookup-append : (test : K → Bool) (xs ys : List (K × V))
      → lookup test (xs ++ ys) ≡ option_or (lookup test xs) (lookup test ys)
  lookup-append test [] ys = refl
  lookup-append test (x ∷ xs) ys = by (test x.0) (lookup-append test xs ys)
    where
      by : (b : Bool) → lookup test (xs ++ ys) ≡ option_or (lookup test xs) (lookup test ys)
          → cond b (Some x.1) (lookup test (xs ++ ys))
          ≡ option_or (cond b (Some x.1) (lookup test xs)) (lookup test ys)
      by true h = refl
      by false h = h

  -- goal: `put` at the place that a replace uses, written out: the value of a present key changes at its
  -- place, and an absent key is inserted last; and the keys afterwards
  pub put_in_place : (eq : K → K → Bool) (es : List (K × V)) (k : K) (v : V)
      → put eq es k v (place_or_end eq es k)
      ≡ cond (is_some (lookup (eq k) es)) (set_value (eq k) es v) (es ++ (k, v) ∷ [])
  put_in_place eq es k v = by (splits (eq k) es)
    where
      written : Option V → List (K × V)
      written o = cond (is_some o) (set_value (eq k) es v) (es ++ (k, v) ∷ [])

      by : NonePasses (eq k) es ⊎ Stands (eq k) es
          → put eq es k v (place_or_end eq es k) ≡ written (lookup (eq k) es)
      by (inl n) =
          ap (λ o. put eq es k v (unwrap_or o (length es))) (place_of-none (eq k) es n)
          ∙ put_back_absent eq es k v n ∙ sym (ap written (lookup-none (eq k) es n))
      by (inr s) =
          let at = ap (place_of (eq k)) s.3.is ∙ place_of-here (eq k) s.1 s.2 s.3.passes s.0 s.3.before in
          let found = ap (lookup (eq k)) s.3.is ∙ lookup-here (eq k) s.1 s.2 s.3.passes s.0 s.3.before in
          ap (λ o. put eq es k v (unwrap_or o (length es))) at
          ∙ put_at_its_place eq es k v (length s.0) at ∙ sym (ap written found)

  pub keys-put_in_place : (eq : K → K → Bool) (es : List (K × V)) (k : K) (v : V)
      → keys_of (put eq es k v (place_or_end eq es k))
      ≡ cond (is_member eq (keys_of es) k) (keys_of es) (keys_of es ++ k ∷ [])
  keys-put_in_place eq es k v =
      ap keys_of (put_in_place eq es k v) ∙ by (is_some (lookup (eq k) es))
      ∙ ap (λ b. cond b (keys_of es) (keys_of es ++ k ∷ [])) (is_some-lookup (eq k) es)
    where
      by : (b : Bool) → keys_of (cond b (set_value (eq k) es v) (es ++ (k, v) ∷ []))
          ≡ cond b (keys_of es) (keys_of es ++ k ∷ [])
      by true = keys-set_value (eq k) es v
      by false = map-append (λ e. e.0) es ((k, v) ∷ [])

-- goal: the key of the entry that a look-up finds passes its test
pub lookup_entry-passes : {K V : Type 0} (test : K → Bool) (es : List (K × V)) (e : K × V)
    → lookup_entry test es ≡ Some e → test e.0 ≡ true
lookup_entry-passes test [] e found = absurd (none-some e found)
lookup_entry-passes test (x ∷ es) e found = grind (arith, found, lookup_entry-passes test es e)

-- ---- what is found at a key after an entry left, if no two entries have equal keys

module _ {K V : Type 0} (eq : K → K → Bool) (laws : IsEquivalence eq) (q : K) where
  -- goal: `lookup` among the entries behind one
  pub lookup-behind : (e : K × V) (es : List (K × V)) → IsEntries eq (e ∷ es)
      → lookup (eq q) es ≡ cond (eq e.0 q) None (lookup (eq q) (e ∷ es))
  lookup-behind e es d =
      let none : eq e.0 q ≡ true → lookup (eq q) es ≡ None
      = λ t. lookup-none (eq q) es (none_equal eq laws e.0 q es t (IsEntries-head eq e es d)) in
      grind (arith, none, laws.symm q e.0)

  -- goal: `lookup` after `remove_lru` or `pop_front`
  pub lookup-takes_first : (es left : List (K × V)) (o : Option (K × V)) → IsEntries eq es
      → TakesFirst (λ e. e) es o left
      → lookup (eq q) left ≡ option_map_or (λ e. cond (eq e.0 q) None (lookup (eq q) es)) o (lookup (eq q) es)
  lookup-takes_first es left None d t = ap (lookup (eq q)) (t.1 ∙ sym t.0)
  lookup-takes_first es left (Some e) d t =
      lookup-behind e left (subst (IsEntries eq) t d)
      ∙ ap (λ zs. cond (eq e.0 q) None (lookup (eq q) zs)) (sym t)

-- ---- the stored key object

module _ {K V : Type 0} (eq : K → K → Bool) (es : List (K × V)) (k : K) where
  -- goal: f is the same for the stored key and for the given one, if it is the same for equal keys: f is `λ
  -- x. x` for numbers, and `string_bytes` for texts
  pub stored_key-seen : {B : Type 0} → IsEquivalence eq → (f : K → B)
      → ((x y : K) → eq x y ≡ true → f x ≡ f y)
      → f (stored_key eq es k) ≡ f k
  stored_key-seen laws f alike = sym (alike k (stored_key eq es k) (stored_key-equal eq laws k es))

-- ---- a key that is replaced by one that equals it

module _ {K V : Type 0} where
  -- goal: what any key finds once the key at a place was replaced by one that equals it
  pub lookup-set_key_at : (eq : K → K → Bool) → IsEquivalence eq → (q : K) (es : List (K × V)) (j : ℕ)
      (k old : K) → key_at es j ≡ Some old → eq old k ≡ true
      → lookup (eq q) (set_key_at es j k) ≡ lookup (eq q) es
  lookup-set_key_at eq laws q [] j k old at same = refl
  lookup-set_key_at eq laws q (e ∷ es) zero k old at same =
      let is : e.0 ≡ old = same_Some e.0 old at in
      let alike : eq q k ≡ eq q e.0
      = laws.symm q k ∙ laws.congr k e.0 q (laws.symm k e.0 ∙ ap (λ x. eq x k) is ∙ same) ∙ laws.symm e.0 q
      in
      ap (λ b. cond b (Some e.1) (lookup (eq q) es)) alike
  lookup-set_key_at eq laws q (e ∷ es) (suc j) k old at same =
      ap (cond (eq q e.0) (Some e.1)) (lookup-set_key_at eq laws q es j k old at same)
