-- What a lookup finds after each kind of step, from the list that the step leaves.
use Rattle.hashlink_model.proofs.Names.{◌≡◌, ℕ, Bool, true, false, cond, List, [], ◌∷◌, ◌++◌, Option, None}
use Rattle.hashlink_model.proofs.Names.{Some, Result, Ok, Err, inl, inr, refl, sym, ap, ◌∙◌, subst, is_some}
use Rattle.hashlink_model.proofs.Names.{append-nil, IsEquivalence, lookup, lookup_entry, remove_entry}
use Rattle.hashlink_model.proofs.Names.{set_value, MatchOption, IsEntries, IsKeyTest, NonePasses, put}
use Rattle.hashlink_model.specs.Lookups.{UpdatesBy, Updates, UpdatesPopped, KeepsLookups, UpdatesLent}
use Rattle.hashlink_model.proofs.Splits.{splits, lookup-none, none_from_lookup, remove_entry-none}
use Rattle.hashlink_model.proofs.{Names.{TakesFirst, arith}, Splits.remove_entry-here, Retains.none_kept}
use Rattle.hashlink_model.specs.{Entries.moved_match, Lookups.{UpdatesKept, AsAnswered}, Retain.KeepsInOrder}
use Rattle.hashlink_model.proofs.Distinct.{each-left, none_equal, none_others, IsEntries-head, IsEntries-tail}
use Rattle.hashlink_model.proofs.Afterwards.{lookup-put, lookup-put_same, lookup-moved, moved_match-none}
use Rattle.std.specs.{Prelude.{IsSome, OnOk}, Map.{AreApart, KeepsOthers}, Map.Iter.TakesLast}
use Rattle.std.proofs.{Common.⊎_elim, Math.Path.fun_ext, lemmas.Bool.{cases_Bool, true≢false}}
use Rattle.std.proofs.lemmas.Map.{lookup-remove_entry, lookup-set_value}

-- a key that a query finds fails each test that is apart from the query
pub fails_apart : {K : Type 0} (test other : K → Bool) → AreApart test other → (k : K) → other k ≡ true
    → test k ≡ false
fails_apart test other apart k y =
    ⊎_elim (λ t. absurd (true≢false (sym y ∙ apart k t))) (λ n. n) (cases_Bool (test k))

module _ {K V : Type 0} (eq : K → K → Bool) where
  -- what holds for each key that fails the test holds for each query for such keys
  keeps_others : (test : K → Bool) (old new : List (K × V))
      → ((q : K) → test q ≡ false → lookup (eq q) new ≡ lookup (eq q) old) → KeepsOthers eq test old new
  unfolding KeepsOthers
  keeps_others test old new others = λ other tells apart.
      let found : (k : K) → other k ≡ true → lookup other new ≡ lookup other old
      = λ k y.
      let same : other ≡ eq k = fun_ext (λ x. tells k x y) in
      ap (λ t. lookup t new) same ∙ others k (fails_apart test other apart k y)
      ∙ sym (ap (λ t. lookup t old) same) in
      elim (splits other old) [
        | inl n ↦ (elim (splits other new) [
          | inl m ↦ lookup-none other new m ∙ sym (lookup-none other old n)
          | inr s ↦ found s.1.0 s.3.passes
        ])
        | inr s ↦ found s.1.0 s.3.passes
      ]

  -- it is enough to show what each key finds, and what the test finds
  updates_by : (test : K → Bool) (old new : List (K × V)) (w : Option V)
      → ((q : K) → lookup (eq q) new ≡ cond (test q) w (lookup (eq q) old)) → lookup test new ≡ w
      → UpdatesBy eq test old new w
  updates_by test old new w each here =
      let others : (q : K) → test q ≡ false → lookup (eq q) new ≡ lookup (eq q) old
      = λ q n. each q ∙ rw n refl in
      (each, here, others, keeps_others test old new others)

  -- a test that passes a key finds what that key finds
  here_by : (test : K → Bool) → IsKeyTest eq test → (k : K) → test k ≡ true → (old new : List (K × V))
      → (w : Option V) → ((q : K) → lookup (eq q) new ≡ cond (test q) w (lookup (eq q) old))
      → lookup test new ≡ w
  here_by test tells k y old new w each =
      ap (λ t. lookup t new) (fun_ext (λ x. tells k x y)) ∙ each k ∙ rw y refl

module _ {K V : Type 0} (eq : K → K → Bool) (laws : IsEquivalence eq) where
  -- ---- a key that is put at a place

  pub updates-put : (es : List (K × V)) (k : K) (v : V) (b : ℕ) → IsEntries eq es
      → Updates eq es (put eq es k v b) k (Some v)
  updates-put es k v b d =
      updates_by eq (eq k) es (put eq es k v b) (Some v) (λ q. lookup-put eq laws q es k v b d)
      (lookup-put_same eq laws k es k v b d (laws.refl k))

  -- goal: the lookups after an insert that is not refused
  pub updates-inserted : {A E : Type 0} (r : Result A E) (es new : List (K × V)) (k : K) (v : V) (b : ℕ)
      → IsEntries eq es → OnOk r (new ≡ put eq es k v b) → OnOk r (Updates eq es new k (Some v))
  updates-inserted (Ok x) es new k v b d is =
      subst (λ zs. Updates eq es zs k (Some v)) (sym is) (updates-put es k v b d)
  updates-inserted (Err x) es new k v b d is = tt

  module _ (test : K → Bool) (tells : IsKeyTest eq test) where
    -- ---- a removal

    pub updates-removed : (es : List (K × V)) → IsEntries eq es
        → UpdatesBy eq test es (remove_entry test es) None
    updates-removed es d =
        let new = remove_entry test es in
        let each : (q : K) → lookup (eq q) new ≡ cond (test q) None (lookup (eq q) es)
        = λ q. lookup-remove_entry laws test tells q es d in
        updates_by eq test es new None each (elim (splits test es) [
          | inl n ↦ ap (lookup test) (remove_entry-none test es n) ∙ lookup-none test es n
          | inr s ↦ here_by eq test tells s.1.0 s.3.passes es new None each
        ])

    -- goal: the lookups after a removal
    pub updates-left : (es new : List (K × V)) → IsEntries eq es → new ≡ remove_entry test es
        → UpdatesBy eq test es new None
    updates-left es new d is =
        subst (λ zs. UpdatesBy eq test es zs None) (sym is) (updates-removed es d)

    -- ---- a write of a value

    pub updates-written : (es : List (K × V)) (w : V) → IsSome (lookup test es)
        → UpdatesBy eq test es (set_value test es w) (Some w)
    updates-written es w there =
        let new = set_value test es w in
        let each : (q : K) → lookup (eq q) new ≡ cond (test q) (Some w) (lookup (eq q) es)
        = λ q. lookup-set_value laws test tells q w es there in
        updates_by eq test es new (Some w) each (elim (splits test es) [
          | inl n ↦ absurd (true≢false (sym there ∙ ap is_some (lookup-none test es n)))
          | inr s ↦ here_by eq test tells s.1.0 s.3.passes es new (Some w) each
        ])

    -- ---- a move

    moved_each : (q : K) (es : List (K × V)) (b : ℕ) → IsEntries eq es
        → lookup (eq q) (moved_match test es b) ≡ lookup (eq q) es
    moved_each q es b d = elim (splits test es) [
      | inl n ↦ ap (lookup (eq q)) (moved_match-none test es b n)
      | inr s ↦ (
          ap (λ t. lookup (eq q) (moved_match t es b)) (fun_ext (λ x. tells s.1.0 x s.3.passes))
          ∙ lookup-moved eq laws q es s.1.0 b d)
    ]

    moved_here : (es : List (K × V)) (b : ℕ) → IsEntries eq es
        → lookup test (moved_match test es b) ≡ lookup test es
    moved_here es b d = elim (splits test es) [
      | inl n ↦ ap (lookup test) (moved_match-none test es b n)
      | inr s ↦ (
          let same : test ≡ eq s.1.0 = fun_ext (λ x. tells s.1.0 x s.3.passes) in
          ap (λ t. lookup t (moved_match test es b)) same ∙ moved_each s.1.0 es b d
          ∙ sym (ap (λ t. lookup t es) same))
    ]

    pub keeps-moved : (es : List (K × V)) (b : ℕ) → IsEntries eq es
        → KeepsLookups eq test es (moved_match test es b)
    keeps-moved es b d = (
      λ q. moved_each q es b d,
      moved_here es b d,
      keeps_others eq test es (moved_match test es b) (λ q n. moved_each q es b d),
    )

    -- goal: the lookups once a value was written that a move lent
    pub updates-lent_moved : (es : List (K × V)) (b : ℕ) → IsEntries eq es → IsSome (lookup test es)
        → UpdatesLent eq test es (moved_match test es b)
    updates-lent_moved es b d there = λ w.
        let zs = moved_match test es b in
        let u = updates-written zs w (ap is_some (moved_here es b d) ∙ there) in
        updates_by eq test es (set_value test zs w) (Some w)
        (λ q. u.0 q ∙ ap (cond (test q) (Some w)) (moved_each q es b d)) u.1

  -- ---- a pop

  updates-first : (e : K × V) (es : List (K × V)) → IsEntries eq (e ∷ es) → Updates eq (e ∷ es) es e.0 None
  updates-first e es d =
      let gone : remove_entry (eq e.0) (e ∷ es) ≡ es = rw (laws.refl e.0) refl in
      updates-left (eq e.0) (laws.congr e.0) (e ∷ es) es d (sym gone)

  updates-last : (es : List (K × V)) (e : K × V) → IsEntries eq (es ++ e ∷ [])
      → Updates eq (es ++ e ∷ []) es e.0 None
  updates-last es e d =
      let before : NonePasses (eq e.0) es = each-left _ es [] (none_others eq laws es e [] d) in
      let gone : remove_entry (eq e.0) (es ++ e ∷ []) ≡ es
      = remove_entry-here (eq e.0) e [] (laws.refl e.0) es before ∙ append-nil es in
      updates-left (eq e.0) (laws.congr e.0) (es ++ e ∷ []) es d (sym gone)

  -- goal: the lookups after a pop
  pub updates-pop_front : (o : Option (K × V)) (es new : List (K × V)) → IsEntries eq es
      → TakesFirst (λ e. e) es o new → UpdatesPopped eq es new o
  updates-pop_front None es new d t = tt
  updates-pop_front (Some e) es new d t =
      subst (λ zs. Updates eq zs new e.0 None) (sym t) (updates-first e new (subst (IsEntries eq) t d))

  pub updates-pop_back : (o : Option (K × V)) (es new : List (K × V)) → IsEntries eq es
      → TakesLast (λ e. e) es o new → UpdatesPopped eq es new o
  updates-pop_back None es new d t = tt
  updates-pop_back (Some e) es new d t =
      subst (λ zs. Updates eq zs new e.0 None) (sym t) (updates-last new e (subst (IsEntries eq) t d))

-- ---- a retain

module _ {F K V : Type 0} (T : F → K → V → Bool → V → F → Type 0) (eq : K → K → Bool)
    (laws : IsEquivalence eq) where
  -- one entry at the front, kept or not
  at_its_key : (q k : K) (w : V) (rest : List (K × V)) (b : Bool) → eq q k ≡ true
      → lookup (eq q) rest ≡ None → lookup (eq q) (cond b ((k, w) ∷ rest) rest) ≡ cond b (Some w) None
  at_its_key q k w rest b t n = grind (arith, t, n)

  at_another : (q k : K) (w : V) (rest : List (K × V)) (b : Bool) → eq q k ≡ false
      → lookup (eq q) (cond b ((k, w) ∷ rest) rest) ≡ lookup (eq q) rest
  at_another q k w rest b t = grind (arith, t)

  kept_each : (q : K) (f : F) (es kept : List (K × V)) (g : F) → IsEntries eq es → KeepsInOrder T f es kept g
      → MatchOption (lookup_entry (eq q) es) (lookup (eq q) kept ≡ None) (AsAnswered T (lookup (eq q) kept))
  kept_each q f [] kept g d r = ap (lookup (eq q)) r.0
  kept_each q f (e ∷ es) kept g d r =
      let rest = kept_each q r.2 es r.3 g (IsEntries-tail eq e es d) r.5 in
      let gone : eq q e.0 ≡ true → lookup (eq q) r.3 ≡ None
      = λ t. lookup-none (eq q) r.3 (none_kept T (eq q) r.2 es r.3 g r.5
      (none_equal eq laws e.0 q es (laws.symm e.0 q ∙ t) (IsEntries-head eq e es d))) in
      let found = ap (lookup (eq q)) r.6 in
      elim (eq q e.0)
      as (λ b. eq q e.0 ≡ b → MatchOption (cond b (Some e) (lookup_entry (eq q) es))
      (lookup (eq q) kept ≡ None) (AsAnswered T (lookup (eq q) kept))) [
        | true ↦ λ t. (f, r.0, r.1, r.2, r.4, found ∙ at_its_key q e.0 r.1 r.3 r.0 t (gone t))
        | false ↦ λ n. subst (λ o. MatchOption (lookup_entry (eq q) es) (o ≡ None) (AsAnswered T o))
            (sym (found ∙ at_another q e.0 r.1 r.3 r.0 n)) rest
      ] refl

  -- goal: the lookups after a retain
  pub updates-retained : (f : F) (es kept new : List (K × V)) (g : F) → IsEntries eq es
      → KeepsInOrder T f es kept g → new ≡ kept → UpdatesKept T eq es new
  updates-retained f es kept new g d r is = subst (UpdatesKept T eq es) (sym is) (
    λ q. kept_each q f es kept g d r,
    λ test none. lookup-none test kept (none_kept T test f es kept g r (none_from_lookup test es none)),
  )
