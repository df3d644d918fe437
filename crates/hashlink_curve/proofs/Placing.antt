-- Keys at rising places: what a use of a key finds, and new places for all keys.
use Rattle.hashlink_curve.proofs.Names.{◌≡◌, ℕ, zero, suc, ◌+◌, ◌-◌, ◌≤◌, ◌<◌, Bool, true, false, cond, List}
use Rattle.hashlink_curve.proofs.Names.{[], ◌∷◌, ◌++◌, length, take, None, Some, refl, sym, ap, ap₂, ◌∙◌}
use Rattle.hashlink_curve.proofs.Names.{subst, arith, length-append, get_or, ◌||◌, nat_eq, nat_lt}
use Rattle.hashlink_curve.proofs.Names.{IsEquivalence, count_by, list_any, keys_of, nat_tests, IsEntries}
use Rattle.hashlink_curve.proofs.Names.{IsKeyTest, none_from_lookup, Marked, MovesPast, GoesLast}
use Rattle.hashlink_curve.specs.Recency.{RecencyState, Rises, IsPlaced, PutsKeyLast}
use Rattle.hashlink_curve.proofs.Sums.{count_by-middle, count_by-cons}
use Rattle.hashlink_model.proofs.Distinct.{each-right, none_equal, none_others}
use Rattle.hashlink_model.specs.Entries.{moved_at, place_of, put, set_value_at}
use Rattle.hashlink_model.specs.{Entry.{ReplacesValue, value_at}, MapState.{AddsEntry, MapState, MovesAt}}
use Rattle.hashlink_model.proofs.Splits.{stands_from_lookup, lookup-here, key_from_place}
use Rattle.hashlink_model.proofs.ByPlace.{moved_at-put, keys-set_value_at, length-set_value_at}
use Rattle.hashlink_model.proofs.Puts.{IsEntries-put, put_back_absent, put_back_here}
use Rattle.std.{proofs.Common.{Option, add-one}, proofs.Math.Path.fun_ext, specs.Map.{lookup, values_of}}
use Rattle.std.proofs.lemmas.{List.{append-nil, map-append, length-map}, Map.NonePasses, Option.same_Some}
use Rattle.std.proofs.lemmas.Bool.{true≢false}
use Rattle.hashlink_core.proofs.Steps.{lookup-place, none_passes_from_place}
use Rattle.hashlink_map.specs.WritingWalk.{WritingWalk, after_front, walk_with}

pub same_keys : {K : Type 0} {s t : RecencyState K} → s ≡ t → s.keys ≡ t.keys
same_keys same = ap (λ s. s.keys) same

-- a test that passes a key is the equality with it
pub test_is : {K : Type 0} (eq : K → K → Bool) (test : K → Bool) → IsKeyTest eq test → (k : K)
    → test k ≡ true → test ≡ eq k
test_is eq test tells k t = fun_ext (λ y. tells k y t)

module _ {K : Type 0} where
  -- ---- rising places

  rises_first : (low : ℕ) (xs : List (K × ℕ)) (e : K × ℕ) (ys : List (K × ℕ)) (next : ℕ)
      → Rises low (xs ++ e ∷ ys) next
      → low ≤ e.1
  rises_first low [] e ys next r = r.0
  rises_first low (x ∷ xs) e ys next r =
      omega (arith, rises_first (x.1 + 1) xs e ys next r.1)

  pub rises_ends : (low : ℕ) (es : List (K × ℕ)) (next : ℕ) → Rises low es next → low ≤ next
  rises_ends low [] next r = r
  rises_ends low (x ∷ es) next r =
      omega (arith, rises_ends (x.1 + 1) es next r.1)

  rises_lower : (low high : ℕ) (es : List (K × ℕ)) (next : ℕ) → low ≤ high → Rises high es next
      → Rises low es next
  rises_lower low high [] next l r = omega arith
  rises_lower low high (x ∷ es) next l r = let a = r.0 in (omega arith, r.1)

  pub rises_below : (low : ℕ) (xs : List (K × ℕ)) (e : K × ℕ) (ys : List (K × ℕ)) (next : ℕ)
      → Rises low (xs ++ e ∷ ys) next → e.1 < next
  rises_below low [] e ys next r = let a = rises_ends (e.1 + 1) ys next r.1 in omega arith
  rises_below low (x ∷ xs) e ys next r = rises_below (x.1 + 1) xs e ys next r.1

  pub rises_push : (low : ℕ) (es : List (K × ℕ)) (k : K) (next : ℕ) → Rises low es next
      → Rises low (es ++ (k, next) ∷ []) (next + 1)
  rises_push low [] k next r = (r, omega arith)
  rises_push low (x ∷ es) k next r = (r.0, rises_push (x.1 + 1) es k next r.1)

  pub rises_middle : (low : ℕ) (xs : List (K × ℕ)) (e : K × ℕ) (ys : List (K × ℕ)) (next : ℕ)
      → Rises low (xs ++ e ∷ ys) next → Rises low (xs ++ ys) next
  rises_middle low [] e ys next r = let a = r.0 in rises_lower low (e.1 + 1) ys next (omega arith) r.1
  rises_middle low (x ∷ xs) e ys next r = (r.0, rises_middle (x.1 + 1) xs e ys next r.1)

  none_below : (low x : ℕ) (es : List (K × ℕ)) (next : ℕ) → Rises low es next → x ≤ low
      → count_by (λ p. nat_lt p x) (values_of es) ≡ 0
  none_below low x [] next r l = refl
  none_below low x (e ∷ es) next r l =
      let rest = none_below (e.1 + 1) x es next r.1 (omega arith) in
      grind (arith, nat_tests, count_by-cons (λ p. nat_lt p x) e.1 (values_of es), rest)

  count_before : (low : ℕ) (xs : List (K × ℕ)) (e : K × ℕ) (ys : List (K × ℕ)) (next : ℕ)
      → Rises low (xs ++ e ∷ ys) next → count_by (λ p. nat_lt p e.1) (values_of (xs ++ e ∷ ys)) ≡ length xs
  count_before low [] e ys next r = none_below e.1 e.1 (e ∷ ys) next (omega arith, r.1) (omega arith)
  count_before low (x ∷ xs) e ys next r =
      let a = rises_first (x.1 + 1) xs e ys next r.1 in
      let one = count_by-cons (λ p. nat_lt p e.1) x.1 (values_of (xs ++ e ∷ ys)) in
      grind (arith, nat_tests, one, count_before (x.1 + 1) xs e ys next r.1)

  -- the place after all keys is free
  none_at : (low : ℕ) (es : List (K × ℕ)) (next : ℕ) → Rises low es next
      → count_by (nat_eq next) (values_of es) ≡ 0
  none_at low [] next r = refl
  none_at low (e ∷ es) next r =
      let a = rises_ends (e.1 + 1) es next r.1 in
      grind (arith, nat_tests, count_by-cons (nat_eq next) e.1 (values_of es), none_at (e.1 + 1) es next r.1)

  pub free_at : (es : List (K × ℕ)) (next : ℕ) (row : List ℕ) → Rises 0 es next → Marked row (values_of es)
      → next < length row → get_or row next 0 ≡ 0
  free_at es next row r m l = m.each next l ∙ none_at 0 es next r

  pub list_any-keys : (test : K → Bool) (es : List (K × ℕ)) → NonePasses test es
      → list_any test (keys_of es) ≡ false
  list_any-keys test [] n = refl
  list_any-keys test (e ∷ es) n = ap₂ (λ a b. a || b) n.0 (list_any-keys test es n.1)

  -- a key that is not found is not among the keys
  pub none_found : (test : K → Bool) (es : List (K × ℕ)) → lookup test es ≡ None
      → list_any test (keys_of es) ≡ true → ⊥
  none_found test es none there =
      true≢false (sym there ∙ list_any-keys test es (none_from_lookup test es none))

  pub none_among : (test : K → Bool) (es : List (K × ℕ)) → place_of test es ≡ None
      → list_any test (keys_of es) ≡ false
  none_among test es none = list_any-keys test es (none_passes_from_place test es none)

  -- a mark at the place of one more entry
  marked_last : (es : List (K × ℕ)) (k : K) (n : ℕ) (row after : List ℕ)
      → ((xs ys : List ℕ) → Marked row (xs ++ ys) → Marked after (xs ++ n ∷ ys))
      → Marked row (values_of es) → Marked after (values_of (es ++ (k, n) ∷ []))
  marked_last es k n row after marks m =
      subst (Marked after) (sym (map-append (λ e. e.1) es ((k, n) ∷ [])))
      (marks (values_of es) [] (subst (Marked row) (sym (append-nil (values_of es))) m))

  keys_of-append : (xs ys : List (K × ℕ)) → keys_of (xs ++ ys) ≡ keys_of xs ++ keys_of ys
  keys_of-append xs ys = map-append (λ e. e.0) xs ys

-- ---- a use of a key

module _ {K : Type 0} (eq : K → K → Bool) (laws : IsEquivalence eq) where
  -- the entry of a present key, and the marks at and before its place
  pub record Found (es : List (K × ℕ)) (row : List ℕ) (next : ℕ) (k : K) (place : ℕ) : Type 0 where
    pub front : List (K × ℕ)
    pub key : K
    pub back : List (K × ℕ)
    pub is : es ≡ front ++ (key, place) ∷ back
    pub equal : eq k key ≡ true
    pub none : NonePasses (eq k) front
    pub none_after : NonePasses (eq k) back
    pub within : place < length row
    pub long : length es ≡ length front + suc (length back)
    pub before : count_by (λ p. nat_lt p place) (values_of es) ≡ length front
    pub values : values_of es ≡ values_of front ++ place ∷ values_of back
    pub marked : 0 < get_or row place 0

  pub found : (es : List (K × ℕ)) (row : List ℕ) (next : ℕ) (k : K) (place : ℕ) → IsPlaced eq es row next
      → lookup (eq k) es ≡ Some place → Found es row next k place
  found es row next k place p l =
      let s = stands_from_lookup (eq k) es place l in
      let at : s.1.1 ≡ place
      = same_Some s.1.1 place (sym (lookup-here (eq k) s.1 s.2 s.3.passes s.0 s.3.before) ∙ ap
      (lookup (eq k)) (sym s.3.is) ∙ l)
      in
      let is : es ≡ s.0 ++ (s.1.0, place) ∷ s.2 = s.3.is ∙ ap (λ n. s.0 ++ (s.1.0, n) ∷ s.2) at in
      let e : K × ℕ = (s.1.0, place) in
      let r = subst (λ zs. Rises 0 zs next) is p.rises in
      let others = none_others eq laws s.0 e s.2 (subst (IsEntries eq) is p.distinct) in
      let values = ap values_of is ∙ map-append (λ e. e.1) s.0 (e ∷ s.2) in
      let below = rises_below 0 s.0 e s.2 next r in
      let each = p.marked.each place (omega arith) in
      let here = ap (count_by (nat_eq place)) values in
      let more = count_by-middle (nat_eq place) (values_of s.0) place (values_of s.2) in
      let one : ◌≡◌ {A = ℕ} (cond (nat_eq place place) 1 0) 1 = grind (arith, nat_tests) in
      record {
        front = s.0;
        key = s.1.0;
        back = s.2;
        is = is;
        equal = s.3.passes;
        none = s.3.before;
        none_after = none_equal eq laws s.1.0 k s.2 (laws.symm s.1.0 k ∙ s.3.passes)
            (each-right _ s.0 s.2 others);
        within = omega arith;
        long = ap length is ∙ length-append s.0 (e ∷ s.2);
        before = ap (λ zs. count_by (λ p. nat_lt p place) (values_of zs)) is
            ∙ count_before 0 s.0 e s.2 next r;
        values = values;
        marked = omega arith;
      }

  -- the key is put last, at the next place, where a mark is set
  pub placed_last : (es new : List (K × ℕ)) (row after : List ℕ) (next : ℕ) (k : K) → Rises 0 es next
      → Marked row (values_of es) → new ≡ es ++ (k, next) ∷ [] → IsEntries eq new
      → ((xs ys : List ℕ) → Marked row (xs ++ ys) → Marked after (xs ++ next ∷ ys)) → next < length after
      → IsPlaced eq new after (next + 1)
  placed_last es new row after next k r m there d marks l =
      record {
        distinct = d;
        rises = subst (λ zs. Rises 0 zs (next + 1)) (sym there) (rises_push 0 es k next r);
        marked = subst (λ zs. Marked after (values_of zs)) (sym there)
            (marked_last es k next row after marks m);
        within = omega arith;
      }

  module _ (es : List (K × ℕ)) (row : List ℕ) (next : ℕ) (k : K) (place : ℕ) (p : IsPlaced eq es row next)
      (f : Found es row next k place) where
    abbrev others : List (K × ℕ)
    others = f.front ++ f.back

    found_there : (new : List (K × ℕ)) → new ≡ put eq es k next (length es)
        → new ≡ others ++ (f.key, next) ∷ []
    found_there new n =
        n ∙ ap (λ zs. put eq zs k next (length zs)) f.is
        ∙ put_back_here eq f.front (f.key, place) f.back k next f.equal f.none

    others_rise : Rises 0 others next
    others_rise =
        rises_middle 0 f.front (f.key, place) f.back next (subst (λ zs. Rises 0 zs next) f.is p.rises)

    -- afterwards the key is the last, at the next place
    pub found_moves : (new : List (K × ℕ)) (past : ℕ) → new ≡ put eq es k next (length es)
        → past ≡ length es - 1 - length f.front
        → MovesPast (eq k) (keys_of es) (keys_of new) past
    found_moves new past n o =
        let long = f.long in
        let m = length-map f.back (λ e. e.0) in
        record {
          front = keys_of f.front;
          key = f.key;
          back = keys_of f.back;
          split = ap keys_of f.is ∙ keys_of-append f.front ((f.key, place) ∷ f.back);
          passes = f.equal;
          none_before = list_any-keys (eq k) f.front f.none;
          none_after = list_any-keys (eq k) f.back f.none_after;
          moved = ap keys_of (found_there new n) ∙ keys_of-append others ((f.key, next) ∷ [])
              ∙ ap (λ zs. zs ++ f.key ∷ []) (keys_of-append f.front f.back);
          count = omega arith;
        }

    -- after its mark was moved to the next place
    pub found_placed : (new : List (K × ℕ)) (after : List ℕ) → new ≡ put eq es k next (length es)
        → IsEntries eq new
        → ((xs ys : List ℕ) → Marked row (xs ++ place ∷ ys) → Marked after ((xs ++ ys) ++ next ∷ []))
        → next < length after → IsPlaced eq new after (next + 1)
    found_placed new after n d moved l =
        let there = found_there new n in
        let values : values_of new ≡ (values_of f.front ++ values_of f.back) ++ next ∷ []
        = ap values_of there ∙ map-append (λ e. e.1) others ((f.key, next) ∷ [])
        ∙ ap (λ zs. zs ++ next ∷ []) (map-append (λ e. e.1) f.front f.back) in
        record {
          distinct = d;
          rises = subst (λ zs. Rises 0 zs (next + 1)) (sym there)
              (rises_push 0 others f.key next others_rise);
          marked = subst (Marked after) (sym values)
              (moved (values_of f.front) (values_of f.back) (subst (Marked row) f.values p.marked));
          within = omega arith;
        }

  pub absent_last : (es new : List (K × ℕ)) (k : K) (next : ℕ) → lookup (eq k) es ≡ None
      → new ≡ es ++ (k, next) ∷ [] → GoesLast eq (keys_of es) (keys_of new) k
  absent_last es new k next l n =
      record {
        absent = list_any-keys (eq k) es (none_from_lookup (eq k) es l);
        last = ap keys_of n ∙ keys_of-append es ((k, next) ∷ []);
      }

-- ---- the key that passes a test goes last

module _ {K S : Type 0} (eq : K → K → Bool) (test : K → Bool) (tells : IsKeyTest eq test)
    {es after : List (K × ℕ)} {old new : MapState K ℕ S} {next : ℕ} (before : es ≡ old.entries)
    (is : after ≡ new.entries) where
  -- its entry, which gets another place and then moves
  pub puts_found : {mid : MapState K ℕ S} {i j was : ℕ} → i ≡ j → place_of test es ≡ Some j
      → ReplacesValue old mid j next was → MovesAt mid new i (length mid.entries)
      → PutsKeyLast eq test es after next (Some was)
  puts_found {i = i} {j = j} same at r m =
      let k = key_from_place test eq tells es j at in
      let there = subst (λ t. place_of t es ≡ Some j) k.1 at in
      record {
        key = k.0;
        tells = k.1;
        entries = is ∙ m.entries ∙ ap₂ (λ zs n. moved_at zs n (length zs))
            (r.step.entries ∙ ap (λ zs. set_value_at zs j next) (sym before)) same
            ∙ ap (moved_at (set_value_at es j next) j) (length-set_value_at es j next)
            ∙ moved_at-put eq es k.0 j there next (length es);
        found = sym (lookup-place (eq k.0) es j there ∙ ap (λ zs. value_at zs j) before ∙ r.answer);
      }

  -- a new entry
  pub puts_made : {k : K} → test k ≡ true → AddsEntry eq old new k next (length old.entries)
      → PutsKeyLast eq test es after next None
  puts_made {k = k} passes a =
      record {
        key = k;
        tells = test_is eq test tells k passes;
        entries = is ∙ a.adds.entries ∙ ap (λ zs. put eq zs k next (length zs)) (sym before);
        found = sym (ap (lookup (eq k)) before ∙ a.absent);
      }

-- afterwards
module _ {K : Type 0} (eq : K → K → Bool) (laws : IsEquivalence eq) {test : K → Bool}
    {es after : List (K × ℕ)} {next : ℕ} {was : Option ℕ} (p : PutsKeyLast eq test es after next was) where
  pub puts_distinct : IsEntries eq es → IsEntries eq after
  puts_distinct d = subst (IsEntries eq) (sym p.entries) (IsEntries-put eq laws es p.key next (length es) d)

  pub puts_new : was ≡ None → after ≡ es ++ (p.key, next) ∷ []
  puts_new none =
      p.entries ∙ put_back_absent eq es p.key next (none_from_lookup (eq p.key) es (sym p.found ∙ none))

-- ---- new places for all keys

module _ {K : Type 0} where
  -- the entries up to the one at this place, after a write of its value
  taken-written : (i : ℕ) (es : List (K × ℕ)) (v : ℕ) → i < length es
      → (k : K) × (take (suc i) (set_value_at es i v) ≡ take i es ++ (k, v) ∷ [])
  taken-written i [] v l = absurd (omega (arith, l))
  taken-written zero (e ∷ es) v l = (e.0, refl)
  taken-written (suc i) (e ∷ es) v l =
      let r = taken-written i es v (omega (arith, l)) in (r.0, ap (λ zs. e ∷ zs) r.1)

module _ {K S : Type 0} where
  -- the entries before this place have rising places, at which the marks are. All keys are as they were
  pub record Renumbers (old : List (K × ℕ)) (w : WritingWalk K ℕ S) (row : List ℕ) (place : ℕ)
      : Type 0 where
    pub at : w.at ≡ place
    pub whole : place + w.left ≡ length w.map.entries
    pub keys : keys_of w.map.entries ≡ keys_of old
    pub rises : Rises 0 (take place w.map.entries) place
    pub marked : Marked row (values_of (take place w.map.entries))

  pub Renumbers-step : {old : List (K × ℕ)} {w new : WritingWalk K ℕ S} {row after : List ℕ} {place : ℕ}
      → Renumbers old w row place → 0 < w.left → new ≡ walk_with (after_front w) w.at place
      → ((xs ys : List ℕ) → Marked row (xs ++ ys) → Marked after (xs ++ place ∷ ys))
      → Renumbers old new after (place + 1)
  Renumbers-step {old = old} {w = w} {row = row} {after = after} {place = place} r some told marks =
      let es = w.map.entries in
      let front = take place es in
      let t = taken-written place es place (omega (arith, r.whole, some)) in
      let there : take (place + 1) (set_value_at es w.at place) ≡ front ++ (t.0, place) ∷ []
      = ap₂ (λ n i. take n (set_value_at es i place)) (add-one place) r.at ∙ t.1 in
      subst (λ n. Renumbers old n after (place + 1)) (sym told) record {
        at = ap (λ i. i + 1) r.at;
        whole = omega (arith, r.whole, some, length-set_value_at es w.at place);
        keys = keys-set_value_at es w.at place ∙ r.keys;
        rises = subst (λ zs. Rises 0 zs (place + 1)) (sym there) (rises_push 0 front t.0 place r.rises);
        marked = subst (λ zs. Marked after (values_of zs)) (sym there)
            (marked_last front t.0 place row after marks r.marked);
      }
