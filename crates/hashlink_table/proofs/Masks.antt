-- The bits of a mask, one for each cell of a group that passes a test.
use Rattle.hashlink_table.proofs.Names
use Names.{◌≡◌, ℕ, zero, suc, ◌+◌, ◌-◌, ◌*◌, ◌/◌, ◌^◌, ◌<◌, ◌≤◌, Bool, true, false, cond, not, List, []}
use Names.{◌∷◌, map, length, drop, get_or, count_by, None, Some, IsSome, Option, refl, sym, ap, ◌∙◌, subst}
use Names.{arith, is_none, prefix_len, true≢false, drop-drop, get_or-drop}
use Names.{length-drop, take_all, sum_by-cons, length-chunk, get_or-chunk, trailing_mask_l}
use Names.{none_from_empty_mask, one-add, count_trailing_zeros, mask_l, shr-shr, Cell, kept_at}
use Names.{bare_cell, lanes_of}

module _ {X : Type 0} (p : X → Bool) where
  -- the first element that passes is the one at r, and the elements after it have the rest of the mask
  pub record IsFirst (xs : List X) (r : ℕ) : Type 0 where
    pub within : r < length xs
    pub before : (k : ℕ) (d : X) → k < r → p (get_or xs k d) ≡ false
    pub here : (d : X) → p (get_or xs r d) ≡ true
    pub rest : mask_l (map p xs) / 2 ^ r / 2 ≡ mask_l (map p (drop (r + 1) xs))
    pub count : count_by p xs ≡ 1 + count_by p (drop (r + 1) xs)

  count-one : (x : X) (xs : List X) (b : Bool) → p x ≡ b → count_by p (x ∷ xs) ≡ cond b 1 0 + count_by p xs
  count-one x xs b e = sum_by-cons (λ y. cond (p y) 1 0) x xs ∙ ap (λ c. cond {A = ℕ} c 1 0 + count_by p xs) e

  half : (m r : ℕ) → 2 * m / 2 ^ suc r / 2 ≡ m / 2 ^ r / 2
  half m r =
      let once : 2 * m / 2 ^ 1 ≡ m = omega arith in
      ap (λ n. n / 2)
      (ap (λ j. 2 * m / 2 ^ j) (sym (one-add r)) ∙ sym (shr-shr (2 * m) 1 r) ∙ ap (λ n. n / 2 ^ r) once)

  first : (xs : List X) → (mask_l (map p xs) ≡ 0 → ⊥) → IsFirst xs (prefix_len (λ x. not (p x)) xs)
  first [] h = absurd (h refl)
  first (x ∷ xs) h = by (first xs) (p x) refl
    where
      by : ((mask_l (map p xs) ≡ 0 → ⊥) → IsFirst xs (prefix_len (λ x. not (p x)) xs)) → (b : Bool)
          → p x ≡ b
          → IsFirst (x ∷ xs) (prefix_len (λ x. not (p x)) (x ∷ xs))
      by later true e = rw e (record {
        within = omega arith;
        before = λ k d low. absurd (omega arith);
        here = λ d. e;
        rest = rw e (let m = mask_l (map p xs) in omega arith);
        count = count-one x xs true e;
      })
      by later false e =
          let m = mask_l (map p xs) in
          let none : m ≡ 0 → ⊥ = λ z. h (rw e (omega (arith, z))) in
          let f = later none in
          let r = prefix_len (λ x. not (p x)) xs in
          let next : suc (r + 1) ≡ suc r + 1 = omega arith in
          let bits : mask_l (map p (x ∷ xs)) ≡ 2 * m = rw e (omega arith) in
          let counted : count_by p (x ∷ xs) ≡ count_by p xs = count-one x xs false e ∙ omega arith in
          let is : suc r ≡ prefix_len (λ x. not (p x)) (x ∷ xs)
          = sym (one-add r) ∙ ap (λ b. cond (not b) (1 + r) 0) (sym e) in
          subst (IsFirst (x ∷ xs)) is (record {
            within = omega (arith, f.within);
            before = λ k d low. elim k as (λ k. k < suc r → p (get_or (x ∷ xs) k d) ≡ false) [
              | zero ↦ λ _. e
              | suc k ↦ λ low. f.before k d (omega (arith, low))
            ] low;
            here = λ d. f.here d;
            rest = ap (λ n. n / 2 ^ suc r / 2) bits ∙ half m r ∙ f.rest
                ∙ ap (λ n. mask_l (map p (drop n (x ∷ xs)))) next;
            count = counted ∙ f.count ∙ ap (λ n. 1 + count_by p (drop n (x ∷ xs))) next;
          })

  -- the lowest bit of the mask is that of the first element that passes
  pub first_set : (xs : List X) → length xs ≤ 16 → (mask_l (map p xs) ≡ 0 → ⊥)
      → IsFirst xs (count_trailing_zeros 64 (mask_l (map p xs)))
  first_set xs few some =
      subst (IsFirst xs)
      (sym (trailing_mask_l p 64 xs (omega (arith, few)) (positive (mask_l (map p xs)) some)))
      (first xs some)
    where
      positive : (n : ℕ) → (n ≡ 0 → ⊥) → 0 < n
      positive n h = omega (arith, h)

none_pass : {X : Type 0} (p : X → Bool) (xs : List X) → mask_l (map p xs) ≡ 0 → (k : ℕ) (d : X)
    → k < length xs
    → p (get_or xs k d) ≡ false
none_pass p xs e k d low =
    none_from_empty_mask p xs 0 (length xs) d (omega arith)
    (ap (λ ys. mask_l (map p ys)) (take_all (length xs) xs (omega arith)) ∙ e) k (omega arith)
    (omega (arith, low))

-- the cells of a group from the one at `at` on
module _ {N : Type 0} (cells : List (Cell N)) (base : ℕ) where
  abbrev from : ℕ → List (Cell N)
  from at = drop (at - base) (lanes_of cells base)

  from_long : base + 16 ≤ length cells → (at : ℕ) → base ≤ at → length (from at) ≡ base + 16 - at
  from_long room at low =
      omega (arith, low, length-drop (at - base) (lanes_of cells base), length-chunk base 16 cells room)

  from_at : base + 16 ≤ length cells → (at k : ℕ) → base ≤ at → k < length (from at)
      → get_or (from at) k bare_cell ≡ get_or cells (at + k) bare_cell
  from_at room at k low within =
      let n = at - base in
      let index : base + (n + k) ≡ at + k = omega (arith, low) in
      get_or-drop n (lanes_of cells base) k bare_cell
      ∙ get_or-chunk base 16 cells (n + k) bare_cell (omega (arith, low, within, from_long room at low))
      ∙ ap (λ i. get_or cells i bare_cell) index

  -- for the mask of the cells that pass a test
  module _ (q : Cell N → Bool) where
    -- the bits left are those of the cells from `at` on
    pub record IsLeft (at hits : ℕ) : Type 0 where
      pub low : base ≤ at
      pub high : at ≤ base + 16
      pub bits : hits ≡ mask_l (map q (from at))

    -- the lowest bit is that of the first cell that passes
    pub record IsHit (at hits : ℕ) : Type 0 where
      pub to : at + count_trailing_zeros 64 hits < base + 16
      pub before : (i : ℕ) → at ≤ i → i < at + count_trailing_zeros 64 hits
          → q (get_or cells i bare_cell) ≡ false
      pub here : q (get_or cells (at + count_trailing_zeros 64 hits) bare_cell) ≡ true
      pub rest : IsLeft (at + count_trailing_zeros 64 hits + 1) (hits / 2 ^ count_trailing_zeros 64 hits / 2)
      pub count : count_by q (from at) ≡ 1 + count_by q (from (at + count_trailing_zeros 64 hits + 1))

module _ {N : Type 0} {cells : List (Cell N)} {base : ℕ} {q : Cell N → Bool}
    (room : base + 16 ≤ length cells) where
  pub hit : {at hits : ℕ} → IsLeft cells base q at hits → (hits ≡ 0 → ⊥) → IsHit cells base q at hits
  hit {at} left some = subst (IsHit cells base q at) (sym left.bits) here
    where
      here : IsHit cells base q at (mask_l (map q (from cells base at)))
      here =
          let xs = from cells base at in
          let long = from_long cells base room at left.low in
          let f = first_set q xs (omega (arith, long)) (λ e. some (left.bits ∙ e)) in
          let t = count_trailing_zeros 64 (mask_l (map q xs)) in
          let n = at - base in
          let index : n + (t + 1) ≡ at + t + 1 - base = omega (arith, left.low) in
          let later : drop (t + 1) xs ≡ from cells base (at + t + 1)
          = drop-drop (t + 1) n (lanes_of cells base) ∙ ap (λ j. drop j (lanes_of cells base)) index in
          let to : at + t < base + 16 = omega (arith, f.within, from_long cells base room at left.low) in
          record {
            to = to;
            before = λ i from_i to_i.
                let k = i - at in
                let index : at + k ≡ i = omega (arith, from_i) in
                ap q (sym (from_at cells base room at k left.low (omega (arith, f.within, from_i, to_i))
                ∙ ap (λ j. get_or cells j bare_cell) index))
                ∙ f.before k bare_cell (omega (arith, from_i, to_i));
            here = ap q (sym (from_at cells base room at t left.low f.within)) ∙ f.here bare_cell;
            rest = record {
              low = omega (arith, left.low);
              high = omega (arith, to);
              bits = f.rest ∙ ap (λ (ys : List (Cell N)). mask_l (map q ys)) later;
            };
            count = f.count ∙ ap (λ (ys : List (Cell N)). 1 + count_by q ys) later;
          }

  pub no_hit : {at hits : ℕ} → IsLeft cells base q at hits → hits ≡ 0 → (i : ℕ) → at ≤ i → i < base + 16
      → q (get_or cells i bare_cell) ≡ false
  no_hit {at} left empty i from_i to_i =
      let k = i - at in
      let index : at + k ≡ i = omega (arith, from_i) in
      let within : k < length (from cells base at)
      = omega (arith, from_long cells base room at left.low, from_i, to_i) in
      ap q (sym (from_at cells base room at k left.low within ∙ ap (λ j. get_or cells j bare_cell) index))
      ∙ none_pass q (from cells base at) (sym left.bits ∙ empty) k bare_cell within

module _ {N : Type 0} where
  -- if the mask of a group's free cells is empty, each cell of the group has a node
  pub all_taken : (cells : List (Cell N)) (base : ℕ) → base + 16 ≤ length cells
      → mask_l (map (λ c. is_none c.kept) (lanes_of cells base)) ≡ 0
      → (at : ℕ) → base ≤ at → at < base + 16 → IsSome (kept_at cells at)
  all_taken cells base room empty at from to =
      some_by (kept_at cells at)
      (none_from_empty_mask (λ (c : Cell N). is_none c.kept) cells base 16 bare_cell room empty at from to)
    where
      some_by : {A : Type 0} (o : Option A) → is_none o ≡ false → IsSome o
      some_by None e = absurd (true≢false e)
      some_by (Some x) e = refl

  -- the bits of a whole mask
  all : (cells : List (Cell N)) (base : ℕ) (q : Cell N → Bool)
      → IsLeft cells base q base (mask_l (map q (lanes_of cells base)))
  all cells base q = record {
    low = omega arith;
    high = omega arith;
    bits =
        let e : 0 ≡ base - base = omega arith in
        ap (λ n. mask_l (map q (drop n (lanes_of cells base)))) e;
  }

  -- if it is not, its lowest bit is that of a free cell
  pub record IsFree (cells : List (Cell N)) (base at : ℕ) : Type 0 where
    pub from : base ≤ at
    pub to : at < base + 16
    pub none : kept_at cells at ≡ None

  pub first_free : (cells : List (Cell N)) (base : ℕ) → base + 16 ≤ length cells
      → (mask_l (map (λ c. is_none c.kept) (lanes_of cells base)) ≡ 0 → ⊥)
      → IsFree cells base
      (base + count_trailing_zeros 64 (mask_l (map (λ c. is_none c.kept) (lanes_of cells base))))
  first_free cells base room some =
      let h = hit room (all cells base (λ c. is_none c.kept)) some in
      record { from = omega arith; to = h.to; none = none_by (kept_at cells _) h.here }
    where
      none_by : {A : Type 0} (o : Option A) → is_none o ≡ true → o ≡ None
      none_by None e = refl
      none_by (Some x) e = absurd (true≢false (sym e))
