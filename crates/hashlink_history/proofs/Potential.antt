-- The distance of a cache from a schedule: the sum of the ranks, from 1 for the oldest, of the keys that the
-- cache holds and the schedule does not.
use Rattle.std.proofs.Common.{◌≡◌, ℕ, zero, suc, ◌+◌, ◌*◌, ◌≤◌, Bool, true, false, ◌&&◌, cond, List, [], ◌∷◌}
use Rattle.std.proofs.Common.{◌++◌, length, filter, refl, ap, ◌∙◌, arith, le_refl, zero-le}
use Rattle.std.specs.{Cmp.IsEquivalence, List.{AllByRecursion, IsDistinct}, Set.is_member}
use Rattle.std.proofs.lemmas.Map.Made.{length-le_from_is_member, is_member-filter}
use Rattle.hashlink_model.proofs.Distinct.{each-weaker}
use Rattle.hashlink_model.proofs.Members.{is_member-equal, none_from_is_member, IsDistinct-filter}

-- the sum of the numbers from 1 to n
abbrev pub triangle : ℕ → ℕ
triangle zero = 0
triangle (suc n) = suc n + triangle n

module _ {X : Type 0} (eq : X → X → Bool) where
  -- how many keys of the list are not in `held`
  abbrev pub outside : List X → List X → ℕ
  outside held [] = 0
  outside held (x ∷ xs) = cond (is_member eq held x) 0 1 + outside held xs

  -- the sum of the ranks of such keys, if the first key has the rank n + 1
  abbrev pub ranks : ℕ → List X → List X → ℕ
  ranks n held [] = 0
  ranks n held (x ∷ xs) = cond (is_member eq held x) 0 (n + 1) + ranks (n + 1) held xs

  pub ranks-next : (n : ℕ) (held xs : List X) → ranks (n + 1) held xs ≡ ranks n held xs + outside held xs
  ranks-next n held [] = refl
  ranks-next n held (x ∷ xs) = grind (arith, ranks-next (n + 1) held xs)

  pub ranks-append : (n : ℕ) (held xs ys : List X)
      → ranks n held (xs ++ ys) ≡ ranks n held xs + ranks (n + length xs) held ys
  ranks-append n held [] ys =
      let same : n ≡ n + 0 = omega arith in omega (arith, ap (λ m. ranks m held ys) same)
  ranks-append n held (x ∷ xs) ys =
      let more : n + 1 + length xs ≡ n + suc (length xs) = omega arith in
      omega (arith, ranks-append (n + 1) held xs ys, ap (λ m. ranks m held ys) more)

  -- a held key adds nothing
  pub ranks-held : (n : ℕ) (held xs : List X) → AllByRecursion (λ x. is_member eq held x ≡ true) xs
      → ranks n held xs ≡ 0
  ranks-held n held [] a = refl
  ranks-held n held (x ∷ xs) a = rw a.0 (omega (arith, ranks-held (n + 1) held xs a.1))

  -- the least and the greatest sum of this many ranks
  pub ranks-at_most : (held xs : List X) (n : ℕ) → ranks n held xs ≤ n * length xs + triangle (length xs)
  ranks-at_most held [] n = zero-le
  ranks-at_most held (x ∷ xs) n = grind (arith, ranks-at_most held xs (n + 1))

  pub ranks-at_least : (held xs : List X) (n : ℕ) → n * outside held xs + triangle (outside held xs)
      ≤ ranks n held xs
  ranks-at_least held [] n = omega arith
  ranks-at_least held (x ∷ xs) n =
      let out = outside held xs in
      let none : triangle (0 + out) ≡ triangle out = (let z : 0 + out ≡ out = omega arith in ap triangle z) in
      let one : triangle (1 + out) ≡ suc out + triangle out
      = (let s : 1 + out ≡ suc out = omega arith in ap triangle s) in
      grind (arith, none, one, ranks-at_least held xs (n + 1))

module _ {X : Type 0} (eq : X → X → Bool) (laws : IsEquivalence eq) where
  -- ---- how many keys are outside

  outside-filter : (held xs : List X) → outside eq held xs + length (filter (is_member eq held) xs)
      ≡ length xs
  outside-filter held [] = omega arith
  outside-filter held (x ∷ xs) = grind (arith, outside-filter held xs)

  kept_distinct : (held xs : List X) → IsDistinct eq xs → IsDistinct eq (filter (is_member eq held) xs)
  kept_distinct held xs d = IsDistinct-filter eq laws (is_member eq held) (is_member-equal eq laws held) xs d

  kept_members : (held xs : List X) (q : X)
      → is_member eq (filter (is_member eq held) xs) q ≡ (is_member eq xs q && is_member eq held q)
  kept_members held xs q = is_member-filter laws (is_member eq held) q
      (λ x t. is_member-equal eq laws held q x t) xs

  -- at most `length held` unequal keys are held
  pub outside-at_least : (held xs : List X) → IsDistinct eq xs → length xs ≤ outside eq held xs + length held
  outside-at_least held xs d =
      let few = length-le_from_is_member laws (filter (is_member eq held) xs) held (kept_distinct held xs d)
      (λ q m. grind (arith, m, kept_members held xs q)) in
      omega (arith, outside-filter held xs)

  pub one_more : (k : X) (zs : List X) → is_member eq zs k ≡ false → IsDistinct eq zs → IsDistinct eq (k ∷ zs)
  unfolding IsDistinct
  one_more k zs m d = (none_from_is_member eq laws zs k m, d)

  -- and one key fewer, if a held key is not among them
  pub outside-one_more : (held xs : List X) (k : X) → IsDistinct eq xs → is_member eq held k ≡ true
      → is_member eq xs k ≡ false → length xs + 1 ≤ outside eq held xs + length held
  outside-one_more held xs k d m n =
      let kept = filter (is_member eq held) xs in
      let few = length-le_from_is_member laws (k ∷ kept) held
      (one_more k kept (grind (arith, n, kept_members held xs k)) (kept_distinct held xs d))
      (λ q e. grind (arith, e, m, is_member-equal eq laws held q k, kept_members held xs q)) in
      omega (arith, outside-filter held xs)

  -- ---- the held keys change

  -- more keys are held
  pub ranks-fewer : (held more xs : List X) (n : ℕ)
      → ((q : X) → is_member eq held q ≡ true → is_member eq more q ≡ true)
      → ranks eq n more xs ≤ ranks eq n held xs
  ranks-fewer held more [] n f = le_refl 0
  ranks-fewer held more (x ∷ xs) n f = grind (arith, f x, ranks-fewer held more xs (n + 1) f)

  others_fewer : (held more xs : List X) (x : X) (n : ℕ)
      → ((q : X) → eq x q ≡ false → is_member eq held q ≡ true → is_member eq more q ≡ true)
      → AllByRecursion (λ y. eq x y ≡ false) xs → ranks eq n more xs ≤ ranks eq n held xs
  others_fewer held more [] x n f a = le_refl 0
  others_fewer held more (y ∷ xs) x n f a = grind (arith, f y a.0, others_fewer held more xs x (n + 1) f a.1)

  -- all held keys except one are still held: the sum grows by at most the greatest rank
  pub ranks-all_but_one : (held more xs : List X) (x : X) (n : ℕ)
      → ((q : X) → eq x q ≡ false → is_member eq held q ≡ true → is_member eq more q ≡ true)
      → IsDistinct eq xs → ranks eq n more xs ≤ ranks eq n held xs + (n + length xs)
  unfolding IsDistinct
  ranks-all_but_one held more [] x n f d = zero-le
  ranks-all_but_one held more (y ∷ xs) x n f d =
      let rest = ranks-all_but_one held more xs x (n + 1) f d.1 in
      let same : eq x y ≡ true → ranks eq (n + 1) more xs ≤ ranks eq (n + 1) held xs
      = λ t. others_fewer held more xs x (n + 1) f (each-weaker _ _ (λ z a. laws.congr x y z t ∙ a) xs d.0) in
      grind (arith, rest, same, f y)

  -- ---- the cache takes a step, and the key is held

  -- a hit: the key leaves its place and becomes the last
  pub ranks-hit : (held xs : List X) (x : X) (ys : List X) (k : X) → is_member eq held x ≡ true
      → is_member eq held k ≡ true → ranks eq 0 held ((xs ++ ys) ++ k ∷ []) ≤ ranks eq 0 held (xs ++ x ∷ ys)
  ranks-hit held xs x ys k m n =
      let m0 = 0 + length xs in
      let all = ranks-append eq 0 held (xs ++ ys) (k ∷ []) in
      let last = ranks-held eq (0 + length (xs ++ ys)) held (k ∷ []) (n, tt) in
      let e : ranks eq m0 held (x ∷ ys) ≡ ranks eq (m0 + 1) held ys = rw m (omega arith) in
      let f = ranks-next eq m0 held ys in
      omega (arith, ranks-append eq 0 held xs ys, ranks-append eq 0 held xs (x ∷ ys))

  -- a miss: the oldest key leaves, the new key becomes the last, and each other key outside loses one rank
  pub ranks-miss : (held : List X) (x : X) (xs : List X) (k : X) → is_member eq held k ≡ true
      → ranks eq 0 held (xs ++ k ∷ []) + outside eq held (x ∷ xs) ≡ ranks eq 0 held (x ∷ xs)
  ranks-miss held x xs k m =
      let last = ranks-held eq (0 + length xs) held (k ∷ []) (m, tt) in
      grind (arith, ranks-append eq 0 held xs (k ∷ []), last, ranks-next eq 0 held xs)
