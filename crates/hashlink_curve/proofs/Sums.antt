-- The sum before a place, by the rows of sums, and a change at a place.
use Rattle.std.proofs.Common.{◌≡◌, ℕ, zero, suc, ◌+◌, ◌-◌, ◌*◌, ◌/◌, ◌^◌, ◌<◌, ◌≤◌, Bool, List, [], ◌∷◌, ◌++◌}
use Rattle.std.proofs.Common.{length, take, drop, get_or, set, replicate, refl, sym, ap, ◌∙◌, ◌⊎◌, inl, inr}
use Rattle.std.proofs.lemmas.List.{take-set-le, take_all, get_or-take, length-set, length-take}
use Rattle.std.proofs.lemmas.List.Sums.{sum_by-cons, sum_by-append, sum_by-set, sum_by_more, sum_by-take-le}
use Rattle.std.{proofs.lemmas.Bool.cases_lt, proofs.Common.{arith, cond, subst, subst₂}, specs.List.count_by}
use Rattle.std.specs.{Prelude.{nat_eq, nat_lt, sum, slice_range, All, Vec}, declared.alloc.Global.Global}
use Rattle.std.proofs.{Math.Seq.{take-set-lt, take-add}, lemmas.List.Sums.{get_or-le-sum_by, sum_by-le}}
use Rattle.std.proofs.lemmas.{List.{take-append-le, length-replicate, length-map}, Bool.Decides.nat_tests}
use Rattle.std.proofs.lemmas.List.{Elements.{All-set, All-replicate}, Folds.sum_by-replicate}
use Rattle.hashlink_curve.specs.Marks.{Marked, HasSums, HasRows, AreSummed, rows_of, sum_before, HasNode}
use Rattle.hashlink_curve.specs.Marks.{changed, CanChange}

-- ---- sums of the first entries

-- the first b entries are the first a and those from there on
sum-range : (row : List ℕ) (a b : ℕ) → a ≤ b
    → sum (slice_range row a b) + sum (take a row) ≡ sum (take b row)
sum-range row a b l =
    let more : a + (b - a) ≡ b = omega arith in
    let s = sum_by-append (λ (m : ℕ). m) (take a row) (slice_range row a b) in
    omega (arith, ap sum (sym (take-add a (b - a) row)) ∙ ap (λ n. sum (take n row)) more)

sum-take-next : (row : List ℕ) (x : ℕ) → x < length row
    → sum (take (x + 1) row) ≡ sum (take x row) + get_or row x 0
sum-take-next row x l = sum_by_more (λ (m : ℕ). m) row x 0 l

pub sum-take-le : (row : List ℕ) (a b : ℕ) → a ≤ b → sum (take a row) ≤ sum (take b row)
sum-take-le row a b l = let s = sum-range row a b l in omega arith

pub sum-take-all : (row : List ℕ) (n : ℕ) → length row ≤ n → sum (take n row) ≡ sum row
sum-take-all row n l = ap sum (take_all n row l)

pub sum-set-after : (row : List ℕ) (x v n : ℕ) → x < length row → x < n
    → sum (take n (set row x v)) + get_or row x 0 ≡ sum (take n row) + v
sum-set-after row x v n l h =
    let long = length-take n row in
    let s = sum_by-set (λ (m : ℕ). m) (take n row) x v 0 (omega arith) in
    omega (arith, ap sum (take-set-lt n row x v h), get_or-take n row x 0 h)

pub sum-set-before : (row : List ℕ) (x v n : ℕ) → n ≤ x → sum (take n (set row x v)) ≡ sum (take n row)
sum-set-before row x v n h = ap sum (take-set-le n row x v h)

-- ---- the row above

module _ (row sums : List ℕ) (h : HasSums row sums) (x : ℕ) (l : x < length row) where
  has_block : x / 64 < length sums
  has_block = let a = h.all in omega arith

  -- the sum of a block is at least each of its entries
  block_covers : get_or row x 0 ≤ get_or sums (x / 64) 0
  block_covers =
      let b = has_block in
      let e0 = h.each (x / 64) (omega arith) in
      let e1 = h.each (x / 64 + 1) (omega arith) in
      let n = sum-take-next sums (x / 64) b in
      let low = sum-take-le row (64 * (x / 64)) x (omega arith) in
      omega (arith, sum-take-next row x l, sum-take-le row (x + 1) (64 * (x / 64 + 1)) (omega arith))

  sums_changed : (less more v : ℕ) → less ≤ get_or row x 0 → v + less ≡ get_or row x 0 + more
      → HasSums (set row x v) (set sums (x / 64) (get_or sums (x / 64) 0 - less + more))
  sums_changed less more v enough is =
      let b = has_block in
      let c = block_covers in
      let w = get_or sums (x / 64) 0 - less + more in
      let long = length-set sums (x / 64) w in
      let wide = length-set row x v in
      record { each = λ j high. by w (omega arith) j (omega arith) (cases_lt (x / 64) j); all = omega arith }
    where
      by : (w : ℕ) → w + less ≡ get_or sums (x / 64) 0 + more → (j : ℕ) → j ≤ length sums
          → (x / 64 < j) ⊎ (j ≤ x / 64)
          → sum (take j (set sums (x / 64) w)) ≡ sum (take (64 * j) (set row x v))
      by w e j high (inl k) =
          let b = has_block in
          let s = sum-set-after sums (x / 64) w j b k in
          omega (arith, sum-set-after row x v (64 * j) l (omega arith), h.each j high)
      by w e j high (inr k) =
          let s = sum-set-before sums (x / 64) w j k in
          omega (arith, sum-set-before row x v (64 * j) (omega arith), h.each j high)

-- all sums are those of the row
sums_all : (row sums : List ℕ) → HasSums row sums → sum sums ≡ sum row
sums_all row sums h =
    let e = h.each (length sums) (omega arith) in
    omega (arith, sum-take-all sums (length sums) (omega arith), sum-take-all row (64 * length sums) h.all)

-- ---- all rows

rows_have : (row : List ℕ) (above : List (List ℕ)) → HasRows row above → (x : ℕ) → x < length row
    → HasNode (x / 64) above
rows_have row [] h x l = tt
rows_have row (sums ∷ above) h x l =
    let b = has_block row sums h.0 x l in
    (b, rows_have sums above h.1 (x / 64) b)

rows_sum : (row : List ℕ) (above : List (List ℕ)) → HasRows row above → (x : ℕ) → x < length row
    → sum (slice_range row (64 * (x / 64)) x) + sum_before (x / 64) above ≡ sum (take x row)
rows_sum row [] h x l =
    let none : 64 * (x / 64) ≡ 0 = omega arith in
    omega (arith, sum-range row (64 * (x / 64)) x (omega arith), ap (λ n. sum (take n row)) none)
rows_sum row (sums ∷ above) h x l =
    let b = has_block row sums h.0 x l in
    let s = sum-range row (64 * (x / 64)) x (omega arith) in
    omega (arith, rows_sum sums above h.1 (x / 64) b, h.0.each (x / 64) (omega arith))

rows_can_change : (row : List ℕ) (above : List (List ℕ)) → HasRows row above → (x less more : ℕ)
    → x < length row → less ≤ get_or row x 0 → sum row + more < 2 ^ 64 → CanChange (x / 64) less more above
rows_can_change row [] h x less more l enough fits = tt
rows_can_change row (sums ∷ above) h x less more l enough fits =
    let b = has_block row sums h.0 x l in
    let c = block_covers row sums h.0 x l in
    let all = sums_all row sums h.0 in
    let most = get_or-le-sum_by (λ (m : ℕ). m) sums (x / 64) 0 b in (
      b,
      omega arith,
      omega arith,
      rows_can_change sums above h.1 (x / 64) less more b (omega arith) (omega arith),
    )

rows_changed : (row : List ℕ) (above : List (List ℕ)) → HasRows row above → (x less more v : ℕ)
    → x < length row → less ≤ get_or row x 0 → v + less ≡ get_or row x 0 + more
    → HasRows (set row x v) (changed (x / 64) less more above)
rows_changed row [] h x less more v l enough is = let a = length-set row x v in omega arith
rows_changed row (sums ∷ above) h x less more v l enough is =
    let b = has_block row sums h.0 x l in
    let c = block_covers row sums h.0 x l in (
      sums_changed row sums h.0 x l less more v enough is,
      rows_changed sums above h.1 (x / 64) less more (get_or sums (x / 64) 0 - less + more) b (omega arith)
          (omega arith),
    )

-- ---- rows of zeros, the last with a given number of entries

abbrev pub OpenRows : List ℕ → List (List ℕ) → ℕ → Type 0
OpenRows row [] width = row ≡ replicate width 0
OpenRows row (sums ∷ above) width = HasSums row sums × OpenRows sums above width

sum-zeros : (width n : ℕ) → sum (take n (replicate width 0)) ≡ 0
sum-zeros width n =
    let a = sum_by-take-le (λ (m : ℕ). m) (replicate width 0) n in
    omega (arith, sum_by-replicate (λ (m : ℕ). m) width 0)

pub OpenRows-push : (row : List ℕ) (above : List (List ℕ)) (width more : ℕ) → OpenRows row above width
    → width ≤ 64 * more → OpenRows row (above ++ replicate more 0 ∷ []) more
OpenRows-push row [] width more h l =
    let long = ap length h ∙ length-replicate width 0 in
    let wide = length-replicate {A = ℕ} more 0 in (
      record {
        each = λ j _.
            omega (arith, sum-zeros more j, sum-zeros width (64 * j), ap (λ r. sum (take (64 * j) r)) h);
        all = omega arith;
      },
      refl,
    )
OpenRows-push row (sums ∷ above) width more h l = (h.0, OpenRows-push sums above width more h.1 l)

rows_end : (row : List ℕ) (above : List (List ℕ)) (width : ℕ) → OpenRows row above width → width ≤ 64
    → HasRows row above
rows_end row [] width h l = let a = ap length h ∙ length-replicate width 0 in omega arith
rows_end row (sums ∷ above) width h l = (h.0, rows_end sums above width h.1 l)

pub OpenRows-end : (row : List ℕ) (above : List (List ℕ)) (width places : ℕ) → row ≡ replicate places 0
    → places ≤ 2 ^ 60 → OpenRows row above width → width ≤ 64 → AreSummed row above
OpenRows-end row above width places zeros few h l =
    let long = ap length zeros ∙ length-replicate places 0 in
    record {
      rows = rows_end row above width h l;
      small = omega arith;
      one = subst (All (λ marks. marks ≤ 1)) (sym zeros)
          (All-replicate (λ marks. marks ≤ 1) places 0 (omega arith));
    }

-- ---- the number of marks before a place

pub count_by-cons : {X : Type 0} (p : X → Bool) (x : X) (xs : List X)
    → count_by p (x ∷ xs) ≡ cond (p x) 1 0 + count_by p xs
count_by-cons p x xs = sum_by-cons (λ y. cond (p y) 1 0) x xs

count_by-next : (x : ℕ) (places : List ℕ)
    → count_by (λ p. nat_lt p (suc x)) places ≡ count_by (λ p. nat_lt p x) places + count_by (nat_eq x) places
count_by-next x [] = refl
count_by-next x (p ∷ places) =
    let more = count_by-cons (λ q. nat_lt q (suc x)) p places in
    let less = count_by-cons (λ q. nat_lt q x) p places in
    grind (arith, nat_tests, more, less, count_by-cons (nat_eq x) p places, count_by-next x places)

count_by-none : (places : List ℕ) → count_by (λ p. nat_lt p 0) places ≡ 0
count_by-none [] = refl
count_by-none (p ∷ places) = grind (arith, count_by-cons (λ q. nat_lt q 0) p places, count_by-none places)

pub marks_before : (row places : List ℕ) → Marked row places → (x : ℕ) → x ≤ length row
    → sum (take x row) ≡ count_by (λ p. nat_lt p x) places
marks_before row places m zero l = sym (count_by-none places)
marks_before row places m (suc x) l =
    let before = marks_before row places m x (omega arith) in
    let at = m.each x (omega arith) in
    let one : x + 1 ≡ suc x = omega arith in
    omega (arith, sum-take-next row x (omega arith), ap (λ n. sum (take n row)) one, count_by-next x places)

-- ---- a place among others, and the sum of all

pub count_by-middle : (p : ℕ → Bool) (xs : List ℕ) (x : ℕ) (ys : List ℕ)
    → count_by p (xs ++ x ∷ ys) ≡ count_by p (xs ++ ys) + cond (p x) 1 0
count_by-middle p xs x ys =
    let add = sum_by-append (λ y. cond (p y) 1 0) xs in
    omega (arith, count_by-cons p x ys, add (x ∷ ys), add ys)

-- there are no more marks than places
sum-marks : (row : List ℕ) (above : List (List ℕ)) → AreSummed row above → sum row < 2 ^ 62
sum-marks row above s =
    omega (arith, sum_by-le (λ (m : ℕ). m) 1 row s.one)

pub AreSummed-can_change : (row : List ℕ) (above : List (List ℕ)) → AreSummed row above → (x less more : ℕ)
    → x < length row → less ≤ get_or row x 0 → more ≤ 1 → CanChange (x / 64) less more above
AreSummed-can_change row above s x less more l enough one =
    let few = sum-marks row above s in
    rows_can_change row above s.rows x less more l enough (omega arith)

-- ---- the rows in memory

length-changed : (node less more : ℕ) (rows : List (List ℕ))
    → length (changed node less more rows) ≡ length rows
length-changed node less more [] = refl
length-changed node less more (row ∷ above) = ap suc (length-changed (node / 64) less more above)

-- the parts of the lent rows that are read to count the marks before a place
pub record Read (row lent : List ℕ) (lents : List (Vec ℕ Global)) (x : ℕ) : Type 0 where
  pub within : HasNode (x / 64) (rows_of lents)
  pub fits : sum (take x row) < 2 ^ 64
  pub sums : sum (slice_range lent (64 * (x / 64)) x) + sum_before (x / 64) (rows_of lents) ≡ sum (take x row)

pub reads : (row lent seen : List ℕ) (rows lents : List (Vec ℕ Global)) (x : ℕ)
    → AreSummed row (rows_of rows) → row ≡ seen → x < length seen → lent ≡ row → lents ≡ rows
    → Read row lent lents x
reads row lent seen rows lents x s is l e es =
    let wide = ap length is in
    let above = rows_of rows in
    let a = sum_by-take-le (λ (m : ℕ). m) row x in
    let b = sum-marks row above s in
    subst₂ (λ r rs. Read row r rs x) (sym e) (sym es) (record {
      within = rows_have row above s.rows x (omega arith);
      fits = omega arith;
      sums = rows_sum row above s.rows x (omega arith);
    })

-- after a change of an entry and of the sums above it, which are written back
pub AreSummed-changed : (row : List ℕ) (rows now : List (Vec ℕ Global)) (x less more v len : ℕ)
    → AreSummed row (rows_of rows) → len ≡ length rows → x < length row → less ≤ get_or row x 0
    → v + less ≡ get_or row x 0 + more → v ≤ 1
    → rows_of now ≡ changed (x / 64) less more (rows_of rows)
    → AreSummed (set row x v) (rows_of (take len (now ++ drop (length now) rows)))
AreSummed-changed row rows now x less more v len s long l enough is one c =
    let m = length-map now (λ r. r.items) in
    let n = length-map rows (λ r. r.items) in
    let k = ap length c ∙ length-changed (x / 64) less more (rows_of rows) in
    let back : take len (now ++ drop (length now) rows) ≡ now
    = take-append-le len now (drop (length now) rows) (omega arith) ∙ take_all len now (omega arith) in
    let wide = length-set row x v in
    let small = s.small in
    record {
      rows = subst (HasRows (set row x v)) (sym c ∙ ap rows_of (sym back))
          (rows_changed row (rows_of rows) s.rows x less more v l enough is);
      small = omega arith;
      one = All-set (λ marks. marks ≤ 1) row x v one s.one;
    }
