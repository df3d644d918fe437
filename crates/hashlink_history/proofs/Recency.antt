-- The keys of a history, each once, in the order of their last uses. A cache of capacity c holds the last c
-- of them.
use Rattle.std.proofs.Common.{◌≡◌, ℕ, ◌+◌, ◌-◌, ◌≤◌, ◌<◌, Bool, true, false, not, ◌&&◌, cond, List, [], ◌∷◌}
use Rattle.std.proofs.Common.{◌++◌, length, take, drop, nat_lt, refl, sym, ap, ap₂, ◌∙◌, ◌⊎◌, inl, inr, subst}
use Rattle.std.proofs.Common.{arith, append_assoc, length-append, length-take, length-drop, take-append-drop}
use Rattle.std.proofs.lemmas.{Slice.Zip.AllZip-long, List.Sums.suffix_len_is}
use Rattle.std.proofs.{Common.{drop_at, lt-ltb, le-ltb, true≢false, min, get_or}, Math.Seq.drop-append-add}
use Rattle.std.specs.{Cmp.IsEquivalence, List.{AllByRecursion, AllZip, IsDistinct, suffix_len, after_last}}
use Rattle.std.{specs.Set.{is_member, unique_keys, remove_key, distinct_count}, proofs.lemmas.Bool.cases_lt}
use Rattle.std.proofs.lemmas.List.{nil_from_length, drop-append-le, get_or-append_right, get_or_at}
use Rattle.std.proofs.lemmas.{List.Elements.All-from_recursion, Map.Made.length-remove_key}
use Rattle.hashlink_history.specs.History.{reuse_distance, recent_keys}
use Rattle.hashlink_model.proofs.Members.{is_member-equal, is_member-append, none_from_is_member}
use Rattle.hashlink_model.proofs.{Distinct.each-right, Members.is_member_from_none}

-- ---- lists whose items are related at each index

module _ {A B : Type 0} (R : A → B → Type 0) where
  pub zip_push : (xs : List A) (ys : List B) (x : A) (y : B) → AllZip R xs ys → R x y
      → AllZip R (xs ++ x ∷ []) (ys ++ y ∷ [])
  zip_push [] [] x y z r = (r, tt)
  zip_push [] (b ∷ ys) x y z r = absurd z
  zip_push (a ∷ xs) [] x y z r = absurd z
  zip_push (a ∷ xs) (b ∷ ys) x y z r = (z.0, zip_push xs ys x y z.1 r)

  pub zip_drop_one : (xs : List A) (ys : List B) → AllZip R xs ys → AllZip R (drop 1 xs) (drop 1 ys)
  zip_drop_one [] [] z = z
  zip_drop_one [] (b ∷ ys) z = absurd z
  zip_drop_one (a ∷ xs) [] z = absurd z
  zip_drop_one (a ∷ xs) (b ∷ ys) z = z.1

  pub zip_length : (xs : List A) (ys : List B) → AllZip R xs ys → length xs ≡ length ys
  zip_length xs ys z = sym (AllZip-long R xs ys z)

module _ {K : Type 0} (eq : K → K → Bool) (laws : IsEquivalence eq) where
  -- ---- the keys of a history, each once

  apart_key : (k : K) (xs : List K) → is_member eq xs k ≡ false → remove_key (eq k) xs ≡ xs
  apart_key k [] m = refl
  apart_key k (x ∷ xs) m = grind (arith, apart_key k xs)

  pub remove_key-left : (k : K) (xs ys : List K) → is_member eq ys k ≡ false
      → remove_key (eq k) (xs ++ ys) ≡ remove_key (eq k) xs ++ ys
  remove_key-left k [] ys m = apart_key k ys m
  remove_key-left k (x ∷ xs) ys m = grind (arith, remove_key-left k xs ys m)

  pub remove_key-right : (k : K) (xs ys : List K) → AllByRecursion (λ y. eq k y ≡ false) xs
      → remove_key (eq k) (xs ++ ys) ≡ xs ++ remove_key (eq k) ys
  remove_key-right k [] ys n = refl
  remove_key-right k (x ∷ xs) ys n = rw n.0 (ap (λ r. x ∷ r) (remove_key-right k xs ys n.1))

  pub is_member-unique : (xs : List K) (q : K) → is_member eq (unique_keys eq xs) q ≡ is_member eq xs q
  is_member-unique [] q = refl
  is_member-unique (x ∷ xs) q = grind (arith, is_member-unique xs q, is_member-equal eq laws xs q x)

  pub IsDistinct-unique : (xs : List K) → IsDistinct eq (unique_keys eq xs)
  unfolding IsDistinct
  IsDistinct-unique [] = tt
  IsDistinct-unique (x ∷ xs) =
      let us = unique_keys eq xs in
      let rest = IsDistinct-unique xs in
      let none = none_from_is_member eq laws us x in
      elim (is_member eq xs x) as (λ b. is_member eq xs x ≡ b → IsDistinct eq (cond b us (x ∷ us)))
      [ true ↦ λ m. rest | false ↦ λ m. (none (is_member-unique xs x ∙ m), rest) ] refl

  -- one more use: the key leaves its place and becomes the last
  pub unique_keys-push : (xs : List K) (k : K)
      → unique_keys eq (xs ++ k ∷ []) ≡ remove_key (eq k) (unique_keys eq xs) ++ k ∷ []
  unique_keys-push [] k = refl
  unique_keys-push (x ∷ xs) k =
      let apart = apart_key k (unique_keys eq xs) in
      let same = is_member-equal eq laws xs k x in
      let pushed = is_member-append eq laws xs (k ∷ []) x in
      grind (arith, pushed, unique_keys-push xs k, apart, is_member-unique xs k, same, laws.symm k x)

  -- ---- the last use of a key

  pub record LastUse (used : List K) (k : K) (xs : List K) (x : K) (ys : List K) : Type 0 where
    pub is : used ≡ xs ++ x ∷ ys
    pub equal : eq k x ≡ true
    pub after : AllByRecursion (λ y. eq k y ≡ false) ys

  pub last_use : (used : List K) (k : K) → is_member eq used k ≡ true
      → (xs : List K) × (x : K) × (ys : List K) × LastUse used k xs x ys
  last_use [] k m = absurd (true≢false (sym m))
  last_use (u ∷ used) k m =
      let none = none_from_is_member eq laws used k in
      elim (is_member eq used k)
      as (λ b. is_member eq used k ≡ b
      → (xs : List K) × (x : K) × (ys : List K) × LastUse (u ∷ used) k xs x ys) [
        | true ↦ λ e. (
            let s = last_use used k e in
            (u ∷ s.0, s.1, s.2, record { is = ap (λ r. u ∷ r) s.3.is; equal = s.3.equal; after = s.3.after }))
        | false ↦ λ e. ([], u, used, record { is = refl; equal = grind (arith, m, e); after = none e })
      ] refl

  -- the keys used after it are unique too
  pub unique_keys-last : (k : K) (xs : List K) (x : K) (ys : List K) → eq k x ≡ true
      → AllByRecursion (λ y. eq k y ≡ false) ys
      → (us : List K) × (unique_keys eq (xs ++ x ∷ ys) ≡ us ++ x ∷ unique_keys eq ys)
  unique_keys-last k [] x ys t n =
      ([], grind (arith, is_member-equal eq laws ys k x t, is_member_from_none eq laws ys k n))
  unique_keys-last k (z ∷ xs) x ys t n =
      let s = unique_keys-last k xs x ys t n in
      let us = unique_keys eq (xs ++ x ∷ ys) in
      elim (is_member eq (xs ++ x ∷ ys) z)
      as (λ b. (vs : List K) × (cond b us (z ∷ us) ≡ vs ++ x ∷ unique_keys eq ys))
      [ true ↦ s | false ↦ (z ∷ s.0, ap (λ r. z ∷ r) s.1) ]

  distinct_apart : (k : K) (xs ys : List K) → IsDistinct eq (xs ++ ys) → is_member eq ys k ≡ true
      → AllByRecursion (λ x. eq k x ≡ false) xs
  unfolding IsDistinct
  distinct_apart k [] ys d m = tt
  distinct_apart k (x ∷ xs) ys d m =
      let none = is_member_from_none eq laws ys x (each-right _ xs ys d.0) in
      let apart : eq k x ≡ false = grind (arith, none, is_member-equal eq laws ys k x) in
      (apart, distinct_apart k xs ys d.1 m)

  -- ---- the last c keys, and the keys before

  abbrev pub older_keys : ℕ → List K → List K
  older_keys c used = take (distinct_count eq used - c) (unique_keys eq used)

  pub older_and_recent : (c : ℕ) (used : List K) → older_keys c used ++ recent_keys eq c used
      ≡ unique_keys eq used
  older_and_recent c used = take-append-drop (distinct_count eq used - c) (unique_keys eq used)

  length_older : (c : ℕ) (used : List K) → length (older_keys c used) ≡ distinct_count eq used - c
  length_older c used = omega (arith, length-take (distinct_count eq used - c) (unique_keys eq used))

  pub length-recent_keys : (c : ℕ) (used : List K) → length (recent_keys eq c used)
      ≡ min c (distinct_count eq used)
  length-recent_keys c used = omega (arith, length-drop (distinct_count eq used - c) (unique_keys eq used))

  -- one more use of a key that is among them
  pub recent_keys-there : (c : ℕ) (used : List K) (k : K) → is_member eq (recent_keys eq c used) k ≡ true
      → recent_keys eq c (used ++ k ∷ []) ≡ remove_key (eq k) (recent_keys eq c used) ++ k ∷ []
  recent_keys-there c used k m =
      let us = older_keys c used in
      let vs = recent_keys eq c used in
      let none = distinct_apart k us vs
      (subst (IsDistinct eq) (sym (older_and_recent c used)) (IsDistinct-unique used)) m in
      let all : unique_keys eq (used ++ k ∷ []) ≡ us ++ (remove_key (eq k) vs ++ k ∷ [])
      = unique_keys-push used k ∙ ap (λ zs. remove_key (eq k) zs ++ k ∷ []) (sym (older_and_recent c used))
      ∙ ap (λ zs. zs ++ k ∷ []) (remove_key-right k us vs none)
      ∙ append_assoc us (remove_key (eq k) vs) (k ∷ []) in
      let a = simp length-append at (ap length all) in
      let e = length-remove_key (eq k) vs m in
      let n : distinct_count eq (used ++ k ∷ []) - c ≡ length us
      = omega (arith, length_older c used, length-recent_keys c used) in
      ap₂ drop n all ∙ drop_at us (remove_key (eq k) vs ++ k ∷ []) (length us) refl

  all_absent : (c : ℕ) (used : List K) (k : K) → is_member eq (recent_keys eq c used) k ≡ false
      → unique_keys eq (used ++ k ∷ []) ≡ remove_key (eq k) (older_keys c used)
      ++ (recent_keys eq c used ++ k ∷ [])
  all_absent c used k m =
      unique_keys-push used k ∙ ap (λ zs. remove_key (eq k) zs ++ k ∷ []) (sym (older_and_recent c used))
      ∙ ap (λ zs. zs ++ k ∷ []) (remove_key-left k (older_keys c used) (recent_keys eq c used) m)
      ∙ append_assoc (remove_key (eq k) (older_keys c used)) (recent_keys eq c used) (k ∷ [])

  -- one more use of a key that is not among them: if there are c keys already, the first leaves
  pub recent_keys-full : (c : ℕ) (used : List K) (k : K) → is_member eq (recent_keys eq c used) k ≡ false
      → c ≤ distinct_count eq used
      → recent_keys eq c (used ++ k ∷ []) ≡ drop 1 (recent_keys eq c used ++ k ∷ [])
  recent_keys-full c used k m l =
      let us = remove_key (eq k) (older_keys c used) in
      let vs = recent_keys eq c used ++ k ∷ [] in
      let all = all_absent c used k m in
      let a = simp length-append at (ap length all) in
      let n : distinct_count eq (used ++ k ∷ []) - c ≡ length us + 1
      = omega (arith, length-recent_keys c used) in
      ap₂ drop n all ∙ drop-append-add us vs 1

  pub recent_keys-room : (c : ℕ) (used : List K) (k : K) → is_member eq (recent_keys eq c used) k ≡ false
      → distinct_count eq used < c → recent_keys eq c (used ++ k ∷ []) ≡ recent_keys eq c used ++ k ∷ []
  recent_keys-room c used k m l =
      let vs = recent_keys eq c used ++ k ∷ [] in
      let older = length_older c used in
      let none : older_keys c used ≡ [] = nil_from_length (older_keys c used) (omega arith) in
      let all : unique_keys eq (used ++ k ∷ []) ≡ vs
      = all_absent c used k m ∙ ap (λ zs. remove_key (eq k) zs ++ vs) none in
      let a = simp length-append at (ap length all) in
      let n : distinct_count eq (used ++ k ∷ []) - c ≡ 0 = omega (arith, length-recent_keys c used) in
      ap₂ drop n all

  -- ---- which keys are among them

  pub after_last-here : (k : K) (xs : List K) (x : K) (ys : List K) → eq k x ≡ true
      → AllByRecursion (λ y. eq k y ≡ false) ys → after_last (eq k) (xs ++ x ∷ ys) ≡ ys
  after_last-here k xs x ys t n =
      let zs = xs ++ x ∷ ys in
      let split : zs ≡ (xs ++ x ∷ []) ++ ys = sym (append_assoc xs (x ∷ []) ys) in
      let front : length (xs ++ x ∷ []) ≡ length xs + 1 = omega (arith, length-append xs (x ∷ [])) in
      let long = ap length split ∙ length-append (xs ++ x ∷ []) ys in
      let others = All-from_recursion (λ y. eq k y ≡ false) ys n in
      let passes : (j : ℕ) → length xs + 1 ≤ j → j < length zs → not (eq k (get_or zs j x)) ≡ true
      = λ j l m. ap not (ap (λ w. eq k (get_or w j x)) split
      ∙ ap (eq k) (get_or-append_right (xs ++ x ∷ []) ys (length xs + 1) j x front l)
      ∙ others (j - (length xs + 1)) x (omega arith))
      in
      let fails : 0 < length xs + 1 → not (eq k (get_or zs (length xs + 1 - 1) x)) ≡ false
      = λ _. let same : length xs + 1 - 1 ≡ length xs = omega arith in ap not
      (ap (λ j. eq k (get_or zs j x)) same ∙ ap (eq k) (get_or_at xs x ys x (length xs) refl) ∙ t) in
      let count = suffix_len_is (λ y. not (eq k y)) zs (length xs + 1) x (omega arith) passes fails in
      let n1 : length zs - suffix_len (λ y. not (eq k y)) zs ≡ length xs + 1 = omega arith in
      ap₂ drop n1 split ∙ drop_at (xs ++ x ∷ []) ys (length xs + 1) front

  within_by : (c : ℕ) (k : K) (us : List K) (x : K) (ys : List K) → eq k x ≡ true → is_member eq ys k ≡ false
      → (length ys < c) ⊎ (c ≤ length ys)
      → is_member eq (drop (length (us ++ x ∷ ys) - c) (us ++ x ∷ ys)) k ≡ nat_lt (length ys) c
  within_by c k us x ys t m (inl l) =
      let n = length (us ++ x ∷ ys) - c in
      let kept = drop-append-le n us (x ∷ ys) (omega (arith, length-append us (x ∷ ys))) in
      grind (arith, kept, t, is_member-append eq laws (drop n us) (x ∷ ys) k, lt-ltb (length ys) c l)
  within_by c k us x ys t m (inr l) =
      let n : length (us ++ x ∷ ys) - c ≡ length (us ++ x ∷ []) + (length ys - c)
      = omega (arith, length-append us (x ∷ ys), length-append us (x ∷ [])) in
      ap (λ j. is_member eq (drop j (us ++ x ∷ ys)) k) n
      ∙ ap (λ zs. is_member eq (drop (length (us ++ x ∷ []) + (length ys - c)) zs) k)
      (sym (append_assoc us (x ∷ []) ys))
      ∙ ap (λ zs. is_member eq zs k) (drop-append-add (us ++ x ∷ []) ys (length ys - c))
      ∙ is_member_from_none eq laws (drop (length ys - c) ys) k
      (each-right _ (take (length ys - c) ys) (drop (length ys - c) ys)
      (subst (AllByRecursion (λ y. eq k y ≡ false)) (sym (take-append-drop (length ys - c) ys))
      (none_from_is_member eq laws ys k m))) ∙ sym (le-ltb (length ys) c l)

  -- the keys since whose last use fewer than c other keys were used
  pub is_recent : (c : ℕ) (used : List K) (k : K)
      → is_member eq (recent_keys eq c used) k ≡ (is_member eq used k && nat_lt (reuse_distance eq used k) c)
  is_recent c used k = by (is_member eq used k) refl
    where
      by : (b : Bool) → is_member eq used k ≡ b
          → is_member eq (recent_keys eq c used) k ≡ (b && nat_lt (reuse_distance eq used k) c)
      by false m =
          let parts = is_member-append eq laws (older_keys c used) (recent_keys eq c used) k in
          grind (arith, parts, m, older_and_recent c used, is_member-unique used k)
      by true m =
          let s = last_use used k m in
          let u = unique_keys-last k s.0 s.1 s.2 s.3.equal s.3.after in
          let all : unique_keys eq used ≡ u.0 ++ s.1 ∷ unique_keys eq s.2 =
          ap (unique_keys eq) s.3.is ∙ u.1 in
          let since : reuse_distance eq used k ≡ length (unique_keys eq s.2)
          = ap (λ zs. distinct_count eq (after_last (eq k) zs)) s.3.is
          ∙ ap (distinct_count eq) (after_last-here k s.0 s.1 s.2 s.3.equal s.3.after) in
          ap (λ zs. is_member eq (drop (length zs - c) zs) k) all
          ∙ within_by c k u.0 s.1 (unique_keys eq s.2) s.3.equal
          (is_member-unique s.2 k ∙ is_member_from_none eq laws s.2 k s.3.after)
          (cases_lt (length (unique_keys eq s.2)) c) ∙ ap (λ n. nat_lt n c) (sym since)
