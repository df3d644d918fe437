-- One more use of a key: its distance, and the caches that miss it.
use Rattle.hashlink_curve.proofs.Names
use Names.{◌≡◌, ℕ, zero, suc, ◌+◌, ◌≤◌, ◌<◌, Bool, true, false, ◌&&◌, ◌||◌, cond, List, [], ◌∷◌, ◌++◌, length}
use Names.{take, drop, nat_lt, None, Some, refl, sym, ap, ap₂, ◌∙◌, subst, subst₂, arith, append_assoc}
use Names.{length-append, get_or, set, sum, IsEquivalence, AllZip, after_last, list_any, IsTallied, is_member}
use Names.{unique_keys, drop-nil, nat_tests, Touches, tallied, sum_by-append, sum_by-set, reuse_distance}
use Names.{CanCount, cache_misses_from, CurveState, Counted, Counts, misses_at, MovesPast}
use Rattle.hashlink_curve.{specs.Curve.distance_of, proofs.Sums.{sum-set-after, sum-set-before, sum-take-le}}
use Rattle.std.proofs.{Common.{Option, true≢false, Vec, vec_len, vec_capacity, ◌^◌}, Math.Path.fun_ext}
use Rattle.std.specs.{declared.alloc.Global.Global, Set.{remove_key, distinct_count}}
use Rattle.std.proofs.lemmas.{List.{append-nil, length-set}, List.Folds.list_any-append}
use Rattle.std.proofs.lemmas.List.Sums.{sum_by-take-drop, get_or-le-sum_by}
use Rattle.hashlink_history.proofs.Recency.{zip_push, zip_length, remove_key-left, remove_key-right}
use Rattle.hashlink_history.proofs.Recency.{is_member-unique, unique_keys-push, last_use, unique_keys-last}
use Rattle.hashlink_history.{specs.History.cache_misses, proofs.Recency.after_last-here}
use Rattle.hashlink_model.proofs.{Members.{none_from_is_member, is_member_from_none}, Distinct.answers_alike}

-- ---- the misses of a cache of capacity c for one more use

module _ {K : Type 0} (eq : K → K → Bool) where
  -- 0 if a cache of capacity c holds the key after these uses, else 1
  abbrev pub missed : ℕ → List K → K → ℕ
  missed c used k = cond (is_member eq used k && nat_lt (reuse_distance eq used k) c) 0 1

  misses_from-push : (c : ℕ) (before used : List K) (k : K)
      → cache_misses_from eq c before (used ++ k ∷ [])
      ≡ cache_misses_from eq c before used + missed c (before ++ used) k
  misses_from-push c before [] k =
      omega (arith, ap (λ zs. missed c zs k) (append-nil before))
  misses_from-push c before (u ∷ used) k =
      let h = misses_from-push c (before ++ u ∷ []) used k in
      omega (arith, ap (λ zs. missed c zs k) (append_assoc before (u ∷ []) used))

  pub cache_misses-push : (c : ℕ) (used : List K) (k : K)
      → cache_misses eq c (used ++ k ∷ []) ≡ cache_misses eq c used + missed c used k
  cache_misses-push c used k = misses_from-push c [] used k

  misses_from-none : (before used : List K) → cache_misses_from eq 0 before used ≡ length used
  misses_from-none before [] = refl
  misses_from-none before (u ∷ used) =
      let a : missed 0 before u ≡ 1 = grind (arith, nat_tests) in
      omega (arith, misses_from-none (before ++ u ∷ []) used)

  -- a cache of capacity 0 misses every use
  pub cache_misses-none : (used : List K) → cache_misses eq 0 used ≡ length used
  cache_misses-none used = misses_from-none [] used

-- ---- sums from an index on

sum-take-drop : (ns : List ℕ) (c : ℕ) → sum (take c ns) + sum (drop c ns) ≡ sum ns
sum-take-drop ns c = sum_by-take-drop (λ (m : ℕ). m) ns c

sum-one-more : (ns : List ℕ) (d : ℕ) → d < length ns → sum (set ns d (get_or ns d 0 + 1)) ≡ sum ns + 1
sum-one-more ns d l = omega (arith, sum_by-set (λ (m : ℕ). m) ns d (get_or ns d 0 + 1) 0 l)

pub sum-drop-push : (c : ℕ) (ns : List ℕ) → sum (drop c (ns ++ 0 ∷ [])) ≡ sum (drop c ns)
sum-drop-push zero ns = omega (arith, sum_by-append (λ (m : ℕ). m) ns (0 ∷ []))
sum-drop-push (suc c) [] = ap sum (drop-nil c) ∙ sym (ap sum (drop-nil (suc c)))
sum-drop-push (suc c) (n ∷ ns) = sum-drop-push c ns

pub sum-drop-more : (c d : ℕ) (ns : List ℕ) → d < length ns
    → sum (drop c (set ns d (get_or ns d 0 + 1))) ≡ sum (drop c ns) + cond (nat_lt d c) 0 1
sum-drop-more c d ns l =
    let new = set ns d (get_or ns d 0 + 1) in
    let before = sum-set-before ns d (get_or ns d 0 + 1) c in
    grind (
      arith,
      nat_tests,
      sum-set-after ns d (get_or ns d 0 + 1) c l,
      before,
      sum-take-drop new c,
      sum-take-drop ns c,
      sum-one-more ns d l,
    )

pub sum-drop-falls : (c d : ℕ) (ns : List ℕ) → c ≤ d → sum (drop d ns) ≤ sum (drop c ns)
sum-drop-falls c d ns l = omega (arith, sum-take-le ns c d l, sum-take-drop ns c, sum-take-drop ns d)

-- ---- keys up to equality

pub list_any-here : {X : Type 0} (test : X → Bool) (xs : List X) (x : X) (ys : List X) → test x ≡ true
    → list_any test (xs ++ x ∷ ys) ≡ true
list_any-here test xs x ys t =
    grind (arith, t, list_any-append test xs (x ∷ ys))

-- ---- the parts of a curve

-- a use of a present key can be counted, and leaves this
MovesPast-next : {K : Type 0} (test : K → Bool) (old new : List K) (d : ℕ) (reuses : Vec ℕ Global) (n : ℕ)
    → MovesPast test old new d → IsTallied old reuses.items n → n + 1 < 2 ^ 64
    → CanCount (Some d) reuses × IsTallied new (tallied (Some d) reuses.items) (n + 1)
    × (list_any test new ≡ true)
MovesPast-next test old new d reuses n p i fits =
    let long = i.distances in
    let all = i.all in
    let a = ap length p.split ∙ length-append p.front (p.key ∷ p.back) in
    let b = ap length p.moved ∙ length-append (p.front ++ p.back) (p.key ∷ []) in
    let c = length-append p.front p.back in
    let within : d < length reuses.items = omega (arith, p.count) in
    let wide = length-set reuses.items d (get_or reuses.items d 0 + 1) in
    let most = get_or-le-sum_by (λ (m : ℕ). m) reuses.items d 0 within in (
      (within, omega arith),
      record {
        distances = omega arith;
        all = omega (arith, sum-one-more reuses.items d within);
        fits = fits;
      },
      ap (list_any test) p.moved ∙ list_any-here test (p.front ++ p.back) p.key [] p.passes,
    )

module _ {K : Type 0} (eq : K → K → Bool) (laws : IsEquivalence eq) where
  abbrev Alike : List K → List K → Type 0
  Alike xs ys = AllZip (λ a b. eq a b ≡ true) xs ys

  zip_member : (k : K) (xs ys : List K) → Alike xs ys → is_member eq xs k ≡ is_member eq ys k
  zip_member k [] [] z = refl
  zip_member k [] (y ∷ ys) z = absurd z
  zip_member k (x ∷ xs) [] z = absurd z
  zip_member k (x ∷ xs) (y ∷ ys) z = ap₂ (λ b c. b || c) (answers_alike eq laws k x y z.0)
      (zip_member k xs ys z.1)

  zip_remove : (k : K) (xs ys : List K) → Alike xs ys → Alike (remove_key (eq k) xs) (remove_key (eq k) ys)
  zip_remove k [] [] z = z
  zip_remove k [] (y ∷ ys) z = absurd z
  zip_remove k (x ∷ xs) [] z = absurd z
  zip_remove k (x ∷ xs) (y ∷ ys) z = grind (arith, answers_alike eq laws k x y z.0, z, zip_remove k xs ys z.1)

  -- the last key that is equal to k is at the same index of both lists
  zip_behind : (k : K) (xs : List K) (x : K) (ys us : List K) (u : K) (vs : List K)
      → Alike (xs ++ x ∷ ys) (us ++ u ∷ vs) → eq k x ≡ true → eq k u ≡ true
      → is_member eq ys k ≡ false → is_member eq vs k ≡ false
      → length ys ≡ length vs
  zip_behind k [] x ys [] u vs z t s n m = zip_length _ ys vs z.1
  zip_behind k [] x ys (a ∷ us) u vs z t s n m =
      absurd
      (true≢false (sym (list_any-here (eq k) us u vs s) ∙ sym (zip_member k ys (us ++ u ∷ vs) z.1) ∙ n))
  zip_behind k (a ∷ xs) x ys [] u vs z t s n m =
      absurd (true≢false (sym (list_any-here (eq k) xs x ys t) ∙ zip_member k (xs ++ x ∷ ys) vs z.1 ∙ m))
  zip_behind k (a ∷ xs) x ys (b ∷ us) u vs z t s n m = zip_behind k xs x ys us u vs z.1 t s n m

  -- ---- the curve after one more use

  -- a use of a key, by its result
  pub Counted-next : (used : List K) (old new : CurveState K) (k : K) (d : Option ℕ)
      → Touches eq old.keys new.keys k d → length old.reuses ≡ length old.keys
      → new.reuses ≡ tallied d old.reuses → Counted eq used old
      → Counted eq (used ++ k ∷ []) new × (d ≡ distance_of eq used k)
  Counted-next used old new k None g long n h =
      let absent = sym (zip_member k old.keys (unique_keys eq used) h.keys) ∙ g.absent in
      let unused : is_member eq used k ≡ false = sym (is_member-unique eq laws used k) ∙ absent in
      let unique = unique_keys-push eq laws used k
      ∙ ap (λ zs. zs ++ k ∷ []) (remove_key-left eq laws k [] (unique_keys eq used) absent) in (
        record {
          keys = subst₂ Alike (sym g.last) (sym unique)
              (zip_push _ old.keys (unique_keys eq used) k k h.keys (laws.refl k));
          misses = λ c.
              let a = cache_misses-push eq c used k in
              let b : missed eq c used k ≡ 1
              = ap (λ b. cond (b && nat_lt (reuse_distance eq used k) c) 0 1) unused in
              let d = h.misses c in
              let f = length-append old.keys (k ∷ []) in
              omega (arith, ap length g.last, ap (λ zs. sum (drop c zs)) n, sum-drop-push c old.reuses);
        },
        sym (ap (λ b. cond b (Some (reuse_distance eq used k)) None) unused),
      )
  Counted-next used old new k (Some d) p long n h =
      let split = subst (λ zs. Alike zs (unique_keys eq used)) p.split h.keys in
      let held = sym (zip_member k (p.front ++ p.key ∷ p.back) (unique_keys eq used) split)
      ∙ list_any-here (eq k) p.front p.key p.back p.passes in
      let used_before : is_member eq used k ≡ true = sym (is_member-unique eq laws used k) ∙ held in
      let s = last_use eq laws used k used_before in
      let u = unique_keys-last eq laws k s.0 s.1 s.2 s.3.equal s.3.after in
      let all : unique_keys eq used ≡ u.0 ++ s.1 ∷ unique_keys eq s.2 = ap (unique_keys eq) s.3.is ∙ u.1 in
      let since = ap (λ zs. distinct_count eq (after_last (eq k) zs)) s.3.is
      ∙ ap (distinct_count eq) (after_last-here eq laws k s.0 s.1 s.2 s.3.equal s.3.after) in
      let behind = zip_behind k p.front p.key p.back u.0 s.1 (unique_keys eq s.2)
      (subst (Alike _) all split) p.passes
      s.3.equal p.none_after (is_member-unique eq laws s.2 k ∙ is_member_from_none eq laws s.2 k s.3.after) in
      let distance : reuse_distance eq used k ≡ d = since ∙ sym behind ∙ sym p.count in
      let removed = remove_key-right eq laws k p.front (p.key ∷ p.back)
      (none_from_is_member eq laws p.front k p.none_before)
      ∙ ap (λ b. p.front ++ cond b p.back (p.key ∷ remove_key (eq k) p.back)) p.passes in
      let others = subst (λ zs. Alike zs (remove_key (eq k) (unique_keys eq used))) removed
      (zip_remove k (p.front ++ p.key ∷ p.back) (unique_keys eq used) split) in (
        record {
          keys = subst₂ Alike (sym p.moved) (sym (unique_keys-push eq laws used k))
              (zip_push _ (p.front ++ p.back) (remove_key (eq k) (unique_keys eq used)) p.key k others
              (laws.symm p.key k ∙ p.passes));
          misses = λ c.
              let a = cache_misses-push eq c used k in
              let b : missed eq c used k ≡ cond (nat_lt d c) 0 1
              = ap₂ (λ b n. cond (b && nat_lt n c) 0 1) used_before distance in
              let e = h.misses c in
              let f = ap length p.moved ∙ length-append (p.front ++ p.back) (p.key ∷ []) in
              let f2 = length-append p.front p.back in
              let g = ap length p.split ∙ length-append p.front (p.key ∷ p.back) in
              let i = ap (λ zs. sum (drop c zs)) n in
              let j = sum-drop-more c d old.reuses (omega arith) in
              omega arith;
        },
        sym (ap (λ b. cond b (Some (reuse_distance eq used k)) None) used_before ∙ ap Some distance),
      )

  -- the use can be counted, and leaves these parts
  pub Touches-next : (old new : List K) (k : K) (d : Option ℕ) (reuses : Vec ℕ Global) (n : ℕ)
      → Touches eq old new k d → IsTallied old reuses.items n → n + 1 < 2 ^ 64
      → vec_len reuses < vec_capacity reuses
      → CanCount d reuses × IsTallied new (tallied d reuses.items) (n + 1) × (is_member eq new k ≡ true)
  Touches-next old new k None reuses n t i fits room =
      let long = i.distances in
      let all = i.all in
      let keys = ap length t.last ∙ length-append old (k ∷ []) in (
        room,
        record {
          distances = omega (arith, length-append reuses.items (0 ∷ []));
          all = omega (arith, sum-drop-push 0 reuses.items);
          fits = fits;
        },
        ap (list_any (eq k)) t.last ∙ list_any-here (eq k) old k [] (laws.refl k),
      )
  Touches-next old new k (Some d) reuses n t i fits room =
      MovesPast-next (eq k) old new d reuses n t i fits

  -- ---- keys that are equal

  zip_last : (xs us : List K) (k q : K) → eq k q ≡ true → Alike xs (us ++ k ∷ []) → Alike xs (us ++ q ∷ [])
  zip_last [] [] k q t z = absurd z
  zip_last [] (u ∷ us) k q t z = absurd z
  zip_last (x ∷ xs) [] k q t z = (sym (answers_alike eq laws x k q t) ∙ z.0, z.1)
  zip_last (x ∷ xs) (u ∷ us) k q t z = (z.0, zip_last xs us k q t z.1)

  -- a use of a key is a use of each key that equals it
  pub Counts-alike : (used : List K) (old new : CurveState K) (k q : K) (d : Option ℕ) → eq k q ≡ true
      → Counts eq used old new k d → Counts eq used old new q d
  Counts-alike used old new k q d t h counted =
      let s = h counted in
      let test : eq k ≡ eq q = fun_ext (λ y. laws.congr k q y t) in
      let unique : (z : K)
      → unique_keys eq (used ++ z ∷ []) ≡ remove_key (eq z) (unique_keys eq used) ++ z ∷ []
      = unique_keys-push eq laws used in (
        record {
          keys = subst (Alike new.keys)
              (ap (λ e. remove_key e (unique_keys eq used) ++ q ∷ []) test ∙ sym (unique q))
              (zip_last new.keys (remove_key (eq k) (unique_keys eq used)) k q t
              (subst (Alike new.keys) (unique k) s.0.keys));
          misses = λ c.
              s.0.misses c ∙ cache_misses-push eq c used k
              ∙ ap (λ e. cache_misses eq c used + missed_by_test c used e) test
              ∙ sym (cache_misses-push eq c used q);
        },
        s.1 ∙ ap (distance_by_test used) test,
      )
    where
      missed_by_test : ℕ → List K → (K → Bool) → ℕ
      missed_by_test c used e =
          cond (list_any e used && nat_lt (distinct_count eq (after_last e used)) c) 0 1

      distance_by_test : List K → (K → Bool) → Option ℕ
      distance_by_test used e = cond (list_any e used) (Some (distinct_count eq (after_last e used))) None

  -- every use is a miss or a reuse
  pub Counted-accesses : (used : List K) (s : CurveState K) → Counted eq used s → misses_at s 0 ≡ length used
  Counted-accesses used s h = h.misses 0 ∙ cache_misses-none eq used
