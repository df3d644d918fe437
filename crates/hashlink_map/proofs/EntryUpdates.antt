-- What a look-up finds after a step at the place of a key, which is given or stored there.
use Rattle.hashlink_map.proofs.Names
use Names.{◌≡◌, ℕ, ◌+◌, Bool, true, cond, List, [], ◌∷◌, ◌++◌, Option, None, Some, length, sym, ap, ap₂}
use Names.{subst, ◌∙◌, true≢false, is_some, IsEquivalence, IsEntries, lookup, place_of, MapState, slice_get}
use Names.{option_map, refl, IfSome, EqualsKeyAt, place_of_its_key}
use Rattle.std.{specs.Prelude.IsSome, specs.Option.option_map_or, proofs.Common.⊎_elim}
use Rattle.std.{proofs.lemmas.Bool.cases_Bool, specs.Map.{KeepsOthers, set_value}}
use Rattle.hashlink_model.specs.Entry.{InsertsValue, InsertsEntry, ReplacesEntry, ReplacesKey, TakesEntry}
use Rattle.hashlink_model.specs.{Entry.ReplacesValue}
use Rattle.hashlink_model.specs.Entries.{IsKeyTest, moved_at, moved_match, set_key_at, set_value_at}
use Rattle.hashlink_model.specs.{Entry.{replace_entry, key_at}, MapState.MovesAt}
use Rattle.hashlink_model.specs.Lookups.{UpdatesBy, Updates, UpdatesAt, KeepsLookups, KeepsLookupsAt}
use Rattle.hashlink_model.proofs.{ByPlace.set_value_at-place, Puts.place_of-set_value}
use Rattle.hashlink_model.proofs.Splits.{stands_from_place}
use Rattle.hashlink_model.proofs.Updates.{updates-put, updates-left, updates-written, keeps-moved}
use Rattle.hashlink_core.proofs.{AtKey.{inserted-key, taken-key}, Steps.lookup-place}
use Rattle.hashlink_map.proofs.Outcomes.{removes_entries}

module _ {K : Type 0} (eq : K → K → Bool) (laws : IsEquivalence eq) where
  -- a test of keys does not tell equal keys apart
  same_answer : (test : K → Bool) → IsKeyTest eq test → (x y : K) → eq x y ≡ true → test x ≡ test y
  same_answer test tells x y e =
      ⊎_elim (λ t. t ∙ sym (tells x y t ∙ e))
      (λ n. n ∙ sym (⊎_elim (λ t. absurd (true≢false (sym (tells y x t ∙ laws.symm y x ∙ e) ∙ n)))
      (λ m. m) (cases_Bool (test y))))
      (cases_Bool (test x))

module _ {K V : Type 0} (eq : K → K → Bool) (laws : IsEquivalence eq) where
  module _ (test : K → Bool) (tells : IsKeyTest eq test) (h : K) where
    -- an equal key in place of the one that stands there changes no answer
    key_set : (xs : List (K × V)) (e : K × V) (ys : List (K × V)) → eq h e.0 ≡ true
        → lookup test (set_key_at (xs ++ e ∷ ys) (length xs) h) ≡ lookup test (xs ++ e ∷ ys)
    key_set [] e ys same =
        ap (λ b. cond b (Some e.1) (lookup test ys)) (same_answer eq laws test tells h e.0 same)
    key_set (x ∷ xs) e ys same = ap (cond (test x.0) (Some x.1)) (key_set xs e ys same)

    place_set : (xs : List (K × V)) (e : K × V) (ys : List (K × V)) → eq h e.0 ≡ true
        → place_of test (set_key_at (xs ++ e ∷ ys) (length xs) h) ≡ place_of test (xs ++ e ∷ ys)
    place_set [] e ys same =
        ap (λ b. cond b (Some 0) (option_map (λ i. i + 1) (place_of test ys)))
        (same_answer eq laws test tells h e.0 same)
    place_set (x ∷ xs) e ys same =
        ap (λ o. cond (test x.0) (Some 0) (option_map (λ i. i + 1) o)) (place_set xs e ys same)

    module _ (es : List (K × V)) (j : ℕ) (p : place_of (eq h) es ≡ Some j) where
      lookup-set_key : lookup test (set_key_at es j h) ≡ lookup test es
      lookup-set_key =
          let s = stands_from_place (eq h) es j p in
          ap₂ (λ zs i. lookup test (set_key_at zs i h)) s.3.is (sym s.4)
          ∙ key_set s.0 s.1 s.2 s.3.passes ∙ ap (lookup test) (sym s.3.is)

      place_of-set_key : place_of test (set_key_at es j h) ≡ place_of test es
      place_of-set_key =
          let s = stands_from_place (eq h) es j p in
          ap₂ (λ zs i. place_of test (set_key_at zs i h)) s.3.is (sym s.4)
          ∙ place_set s.0 s.1 s.2 s.3.passes ∙ ap (place_of test) (sym s.3.is)

  -- an equal key at its place: each query finds what it found
  keeps-set_key : (h : K) (es : List (K × V)) (j : ℕ) → place_of (eq h) es ≡ Some j
      → KeepsLookups eq (eq h) es (set_key_at es j h)
  unfolding KeepsOthers
  keeps-set_key h es j p = (
    λ q. lookup-set_key (eq q) (laws.congr q) h es j p,
    lookup-set_key (eq h) (laws.congr h) h es j p,
    λ other told apart. lookup-set_key other told h es j p,
  )

  -- a step after which each query finds what it found
  updates_kept : (test : K → Bool) (old mid new : List (K × V)) (w : Option V)
      → UpdatesBy eq test old mid w → KeepsLookups eq test mid new → UpdatesBy eq test old new w
  unfolding KeepsOthers
  updates_kept test old mid new w u k = (
    λ q. k.0 q ∙ u.0 q,
    k.1 ∙ u.1,
    λ q n. k.0 q ∙ u.2 q n,
    λ other told apart. k.2 other told apart ∙ u.3 other told apart,
  )

module _ {K V S : Type 0} (eq : K → K → Bool) (laws : IsEquivalence eq) (old new : MapState K V S) (k : K)
    (j : ℕ) (p : place_of (eq k) old.entries ≡ Some j) where
  abbrev Finds : List (K × V) → Option V → Type 0
  Finds es w = Updates eq old.entries es k w

  -- goal: after an entry's `insert`
  pub updates-value_last : (v w : V) → IsEntries eq old.entries → InsertsValue old new j v w
      → Finds new.entries (Some v)
  updates-value_last v w d s =
      subst (λ es. Finds es (Some v)) (sym (inserted-key eq old new k j p v w s).puts.entries)
      (updates-put eq laws old.entries k v (length old.entries) d)

  -- goal: after an entry's moves
  pub keeps-moved_at : (b : ℕ) → IsEntries eq old.entries → MovesAt old new j b
      → KeepsLookups eq (eq k) old.entries new.entries
  keeps-moved_at b d s =
      let moves : moved_match (eq k) old.entries b ≡ moved_at old.entries j b
      = ap (λ o. option_map_or (λ i. moved_at old.entries i b) o old.entries) p in
      subst (KeepsLookups eq (eq k) old.entries) (moves ∙ sym s.entries)
      (keeps-moved eq laws (eq k) (laws.congr k) old.entries b d)

  -- goal: after an entry's removal
  pub updates-taken : (e : K × V) → IsEntries eq old.entries → TakesEntry old new j e
      → Finds new.entries None
  updates-taken e d s =
      updates-left eq laws (eq k) (laws.congr k) old.entries new.entries d
      (removes_entries old new (eq k) (Some e) (taken-key eq old new k j p e s))

  -- goal: after an entry's `replace_key`
  pub keeps-key : (q : K) → ReplacesKey old new j k q → KeepsLookups eq (eq k) old.entries new.entries
  keeps-key q s =
      subst (KeepsLookups eq (eq k) old.entries) (sym s.step.entries)
      (keeps-set_key eq laws k old.entries j p)

  module _ (v : V) (e : K × V) (at : slice_get old.entries j ≡ Some e) where
    abbrev valued : List (K × V)
    valued = set_value_at old.entries j v

    value_set : valued ≡ set_value (eq k) old.entries v
    value_set = set_value_at-place (eq k) old.entries j v p

    place-valued : place_of (eq k) valued ≡ Some j
    place-valued = ap (place_of (eq k)) value_set ∙ place_of-set_value (eq k) (eq k) old.entries v ∙ p

    there : IsSome (lookup (eq k) old.entries)
    there = ap is_some (lookup-place (eq k) old.entries j p ∙ ap (option_map (λ x. x.1)) at)

    finds-valued : Finds valued (Some v)
    finds-valued =
        subst (λ es. Finds es (Some v)) (sym value_set)
        (updates-written eq laws (eq k) (laws.congr k) old.entries v there)

    finds-replaced : Finds (replace_entry old.entries j k v) (Some v)
    finds-replaced =
        updates_kept eq laws (eq k) old.entries valued (replace_entry old.entries j k v) (Some v)
        finds-valued (keeps-set_key eq laws k valued j place-valued)

    place-replaced : place_of (eq k) (replace_entry old.entries j k v) ≡ Some j
    place-replaced = place_of-set_key eq laws (eq k) (laws.congr k) k valued j place-valued ∙ place-valued

  -- goal: after an entry's `replace_entry`
  pub updates-pair : (v : V) (e : K × V) → ReplacesEntry old new j k v e → Finds new.entries (Some v)
  updates-pair v e s =
      subst (λ es. Finds es (Some v)) (sym s.step.entries) (finds-replaced v e s.answer)

  -- goal: after an entry's `insert_entry`
  pub updates-pair_last : (v : V) (e : K × V) → IsEntries eq (replace_entry old.entries j k v)
      → InsertsEntry old new j k v e → Finds new.entries (Some v)
  updates-pair_last v e d s =
      let zs = replace_entry old.entries j k v in
      let b = length old.entries in
      let moves : moved_match (eq k) zs b ≡ moved_at zs j b
      = ap (λ o. option_map_or (λ i. moved_at zs i b) o zs) (place-replaced v e s.answer) in
      updates_kept eq laws (eq k) old.entries zs new.entries (Some v) (finds-replaced v e s.answer)
      (subst (KeepsLookups eq (eq k) zs) (moves ∙ sym s.step.entries)
      (keeps-moved eq laws (eq k) (laws.congr k) zs b d))

-- ---- by the key that is stored at the place j

if_entry : {K V : Type 0} (P : K → Type 0) (o : Option (K × V)) → ((e : K × V) → o ≡ Some e → P e.0)
    → IfSome (option_map (λ e. e.0) o) P
if_entry P None f = tt
if_entry P (Some e) f = f e refl

module _ {K V S : Type 0} (eq : K → K → Bool) (laws : IsEquivalence eq) (old new : MapState K V S) (j : ℕ)
    (d : IsEntries eq old.entries) where
  -- what holds for each entry that is there holds for its key
  by_entry : (P : K → Type 0)
      → ((e : K × V) → slice_get old.entries j ≡ Some e → place_of (eq e.0) old.entries ≡ Some j → P e.0)
      → IfSome (key_at old.entries j) P
  by_entry P f =
      if_entry P (slice_get old.entries j)
      (λ e at. f e at (place_of_its_key eq laws old.entries j e e.0 d at (laws.refl e.0)))

  -- goal: after a raw entry's moves
  pub keeps-moved_raw : (b : ℕ) → MovesAt old new j b → KeepsLookupsAt eq old.entries new.entries j
  keeps-moved_raw b s =
      by_entry (λ k. KeepsLookups eq (eq k) old.entries new.entries)
      (λ e at p. keeps-moved_at eq laws old new e.0 j p b d s)

  -- goal: after a raw entry's `replace_value`
  pub updates-value_raw : (v w : V) → ReplacesValue old new j v w
      → UpdatesAt eq old.entries new.entries j (Some v)
  updates-value_raw v w s =
      by_entry (λ k. Updates eq old.entries new.entries k (Some v)) (λ e at p.
      subst (λ es. Updates eq old.entries es e.0 (Some v)) (sym s.step.entries)
      (finds-valued eq laws old new e.0 j p v e at))

  -- goal: after a raw entry's removal
  pub updates-taken_raw : (x : K × V) → TakesEntry old new j x
      → UpdatesAt eq old.entries new.entries j None
  updates-taken_raw x s =
      by_entry (λ k. Updates eq old.entries new.entries k None)
      (λ e at p. updates-taken eq laws old new e.0 j p x d s)

  -- goal: after a raw entry's `replace_key`
  pub keeps-key_raw : (h q : K) → EqualsKeyAt eq old.entries j h → ReplacesKey old new j h q
      → KeepsLookupsAt eq old.entries new.entries j
  unfolding KeepsOthers
  keeps-key_raw h q same s =
      by_entry (λ k. KeepsLookups eq (eq k) old.entries new.entries) (λ e at p.
      let equal : eq h e.0 ≡ true
      = subst (λ o. IfSome o (λ x. eq h x ≡ true)) (ap (option_map (λ x. x.0)) at) same in
      let place = place_of_its_key eq laws old.entries j e h d at equal in
      subst (KeepsLookups eq (eq e.0) old.entries) (sym s.step.entries) (
        λ x. lookup-set_key eq laws (eq x) (laws.congr x) h old.entries j place,
        lookup-set_key eq laws (eq e.0) (laws.congr e.0) h old.entries j place,
        λ other told apart. lookup-set_key eq laws other told h old.entries j place,
      ))
