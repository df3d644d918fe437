-- What a lazy iterator over two sets returns, and its size hints.
use Rattle.std.proofs.Common.{◌≡◌, ◌+◌, ◌≤◌, Bool, true, List, [], ◌∷◌, ◌++◌, length, filter, Option, None}
use Rattle.std.{proofs.Common.{Some, refl, ap, arith, length-append, le_refl}, specs.Map.Iter.TakesFirst}
use Rattle.hashlink_model.specs.Algebra.{PairWalk, first_passing, left_to_give, left_or_right, pair_step}

module _ {T : Type 0} where
  pub filter-all : (xs : List T) → filter (λ _. true) xs ≡ xs
  filter-all [] = refl
  filter-all (x ∷ xs) = ap (λ r. x ∷ r) (filter-all xs)

  pub first_passing-takes : (p : T → Bool) (xs : List T)
      → TakesFirst (λ y. y) (filter p xs) (first_passing p xs).0 (filter p (first_passing p xs).1)
  first_passing-takes p [] = (refl, refl)
  first_passing-takes p (x ∷ xs) = grind (arith, first_passing-takes p xs)

  step_by : (p q : T → Bool) (ls ys : List T) (o : Option T) (xs : List T)
      → TakesFirst (λ y. y) (filter p ls) o (filter p xs)
      → TakesFirst (λ y. y) (filter p ls ++ filter q ys) (left_or_right q ys o xs).0
      (left_to_give p q (left_or_right q ys o xs).1)
  step_by p q ls ys (Some x) xs h = ap (λ r. r ++ filter q ys) h
  step_by p q ls ys None xs h = rw (h.0, h.1) (first_passing-takes q ys)

  -- a step returns the first of the elements left
  pub pair_step-takes : (p q : T → Bool) (w : PairWalk T)
      → TakesFirst (λ y. y) (left_to_give p q w) (pair_step p q w).0 (left_to_give p q (pair_step p q w).1)
  pair_step-takes p q w =
      step_by p q w.left w.right (first_passing p w.left).0 (first_passing p w.left).1
      (first_passing-takes p w.left)

  -- ---- size hints

  pub length-filter-le : (p : T → Bool) (xs : List T) → length (filter p xs) ≤ length xs
  length-filter-le p [] = le_refl 0
  length-filter-le p (x ∷ xs) = grind (arith, length-filter-le p xs)

  pub left_to_give-at_most : (p q : T → Bool) (w : PairWalk T)
      → length (left_to_give p q w) ≤ length w.left + length w.right
  left_to_give-at_most p q w =
      let both = length-append (filter p w.left) (filter q w.right) in
      omega (arith, length-filter-le p w.left, length-filter-le q w.right)

  pub union-at_least : (q : T → Bool) (w : PairWalk T) → length w.left ≤ length (left_to_give (λ _. true) q w)
  union-at_least q w =
      let both = length-append (filter (λ _. true) w.left) (filter q w.right) in
      omega (arith, ap length (filter-all w.left))

pub ruleset hints = (left_to_give-at_most, union-at_least)

pub ruleset lazy_walks = (filter-all, pair_step-takes, first_passing-takes, length-filter-le, hints)
