-- Iterators. A walk is the part of a list that an iterator has not returned yet.
use Rattle.std.specs.Prelude.{◌-◌, List, [], ◌∷◌, length, take, drop, slice_get, Option, ◌++◌, option_to_list}
use Rattle.std.specs.List.{cons_option}

-- the ends from which an iterator takes a step
pub data End : Type 0 where
  Front Back : End

module _ {X : Type 0} where
  -- what `next` returns, and what is left after it
  abbrev pub first_of : List X → Option X
  first_of xs = slice_get xs 0

  abbrev pub after_first_of : List X → List X
  after_first_of xs = drop 1 xs

  -- what `next_back` returns, and what is left before it
  abbrev pub last_of : List X → Option X
  last_of xs = slice_get xs (length xs - 1)

  abbrev pub before_last_of : List X → List X
  before_last_of xs = take (length xs - 1) xs

  -- what a step from an end returns, and what it leaves
  abbrev pub step_gives : End → List X → Option X
  step_gives Front xs = first_of xs
  step_gives Back xs = last_of xs

  abbrev pub step_leaves : End → List X → List X
  step_leaves Front xs = after_first_of xs
  step_leaves Back xs = before_last_of xs

  -- what several steps return, each from its end, and what they leave
  abbrev pub walk_gives : List End → List X → List (Option X)
  walk_gives [] xs = []
  walk_gives (s ∷ ss) xs = step_gives s xs ∷ walk_gives ss (step_leaves s xs)

  abbrev pub walk_leaves : List End → List X → List X
  walk_leaves [] xs = xs
  walk_leaves (s ∷ ss) xs = walk_leaves ss (step_leaves s xs)

  -- what the steps from the front returned, and what those from the back did, each in the order of the list
  abbrev pub given_front : List End → List X → List X
  given_front [] xs = []
  given_front (Front ∷ ss) xs = cons_option (first_of xs) (given_front ss (after_first_of xs))
  given_front (Back ∷ ss) xs = given_front ss (before_last_of xs)

  abbrev pub given_back : List End → List X → List X
  given_back [] xs = []
  given_back (Front ∷ ss) xs = given_back ss (after_first_of xs)
  given_back (Back ∷ ss) xs = given_back ss (before_last_of xs) ++ option_to_list (last_of xs)
