-- Set algebra: the results for two sets, as lists of elements, and the size hints of the lazy iterators.
use Rattle.std.specs.Prelude.{ℕ, ◌+◌, ◌^◌, Bool, true, false, not, cond, List, [], ◌∷◌, ◌++◌, length, Option}
use Rattle.std.specs.{Prelude.{Some, None, nat_lt, filter}, Set.is_member}

-- a list without elements
abbrev pub is_nil : {T : Type 0} → List T → Bool
is_nil [] = true
is_nil (x ∷ xs) = false

module _ {T : Type 0} (eq : T → T → Bool) where
  -- the elements of xs that are equal to no element of ys, in order
  abbrev pub difference_of : List T → List T → List T
  difference_of xs ys = filter (λ x. not (is_member eq ys x)) xs

  -- the elements of xs that are equal to an element of ys, in order
  abbrev pub intersection_of : List T → List T → List T
  intersection_of xs ys = filter (λ x. is_member eq ys x) xs

  -- xs, and then the elements that only ys has
  abbrev pub union_of : List T → List T → List T
  union_of xs ys = xs ++ difference_of ys xs

  -- the elements that only xs has, and then those that only ys has
  abbrev pub symmetric_difference_of : List T → List T → List T
  symmetric_difference_of xs ys = difference_of xs ys ++ difference_of ys xs

  abbrev pub is_subset : List T → List T → Bool
  is_subset xs ys = is_nil (difference_of xs ys)

  abbrev pub is_disjoint : List T → List T → Bool
  is_disjoint xs ys = is_nil (intersection_of xs ys)

-- an iterator over the elements of xs that pass: it returns the first that passes, and leaves those after it
abbrev pub first_passing : {T : Type 0} → (T → Bool) → List T → Option T × List T
first_passing p [] = (None, [])
first_passing p (x ∷ xs) = cond (p x) (Some x, xs) (first_passing p xs)

-- the sum of two lengths as an upper bound: None if it is above the greatest `usize`
abbrev pub at_most_both : ℕ → ℕ → Option ℕ
at_most_both l r = cond (nat_lt (l + r) (2 ^ 64)) (Some (l + r)) None

-- a lazy iterator over two sets: the elements of the left one, and of the right one, at which it has not
-- looked
pub record PairWalk (T : Type 0) : Type 0 where
  pub left : List T
  pub right : List T

module _ {T : Type 0} where
  -- the elements left to return: those of the left set that pass p, and then those of the right one that pass
  -- q
  abbrev pub left_to_give : (T → Bool) → (T → Bool) → PairWalk T → List T
  left_to_give p q w = filter p w.left ++ filter q w.right

  -- the result of a step, and the iterator after it, if the left set gave o and has xs left: if o is None,
  -- the right set gives the next
  abbrev pub left_or_right : (T → Bool) → List T → Option T → List T → Option T × PairWalk T
  left_or_right q ys (Some x) xs = (Some x, record { left = xs; right = ys })
  left_or_right q ys None xs = ((first_passing q ys).0, record { left = xs; right = (first_passing q ys).1 })

  -- one step of the iterator
  abbrev pub pair_step : (T → Bool) → (T → Bool) → PairWalk T → Option T × PairWalk T
  pair_step p q w = left_or_right q w.right (first_passing p w.left).0 (first_passing p w.left).1

  -- the size hints: at least so many elements are returned, and at most so many
  abbrev pub part_hint : List T → ℕ × Option ℕ
  part_hint left = (0, Some (length left))

  abbrev pub union_hint : PairWalk T → ℕ × Option ℕ
  union_hint w = (length w.left, at_most_both (length w.left) (length w.right))

  abbrev pub symmetric_difference_hint : PairWalk T → ℕ × Option ℕ
  symmetric_difference_hint w = (0, at_most_both (length w.left) (length w.right))
