-- What an iterator from both ends returns and leaves.
use Rattle.hashlink_model.proofs.Names.{◌≡◌, suc, ◌-◌, List, [], ◌∷◌, ◌++◌, length, Option, None, Some}
use Rattle.hashlink_model.proofs.Names.{option_to_list, refl, sym, ap, ◌∙◌, arith, append_assoc, cons_option}
use Rattle.hashlink_model.proofs.Names.{TakesFirst, append-nil, length-append, length-take, length-drop}
use Rattle.std.specs.Map.Iter.{TakesLast}
use Rattle.hashlink_model.specs.Walk.{End, Front, Back, first_of, after_first_of, last_of, before_last_of}
use Rattle.hashlink_model.specs.Walk.{step_leaves, walk_leaves, given_front, given_back}

module _ {X : Type 0} where
  pub takes_first : (xs : List X) → TakesFirst (λ x. x) xs (first_of xs) (after_first_of xs)
  takes_first [] = (refl, refl)
  takes_first (x ∷ xs) = refl

  pub first_splits : (xs : List X) → cons_option (first_of xs) (after_first_of xs) ≡ xs
  first_splits [] = refl
  first_splits (x ∷ xs) = refl

  pub last_splits : (xs : List X) → before_last_of xs ++ option_to_list (last_of xs) ≡ xs
  last_splits [] = refl
  last_splits (x ∷ []) = refl
  last_splits (x ∷ y ∷ xs) =
      let one : length (x ∷ y ∷ xs) - 1 ≡ suc (length (y ∷ xs) - 1) = omega arith in
      rw one (ap (λ r. x ∷ r) (last_splits (y ∷ xs)))

  last_by : (x : X) (xs : List X) (o : Option X) → before_last_of (x ∷ xs) ++ option_to_list o ≡ x ∷ xs
      → TakesLast (λ x. x) (x ∷ xs) o (before_last_of (x ∷ xs))
  last_by x xs None s =
      let long = length-append (before_last_of (x ∷ xs)) [] in
      absurd (omega (arith, ap length s, length-take (length (x ∷ xs) - 1) (x ∷ xs)))
  last_by x xs (Some y) s = sym s

  pub takes_last : (xs : List X) → TakesLast (λ x. x) xs (last_of xs) (before_last_of xs)
  takes_last [] = (refl, refl)
  takes_last (x ∷ xs) = last_by x xs (last_of (x ∷ xs)) (last_splits (x ∷ xs))

  -- ---- runs of steps

  cons_append : (o : Option X) (xs ys : List X) → cons_option o xs ++ ys ≡ cons_option o (xs ++ ys)
  cons_append None xs ys = refl
  cons_append (Some x) xs ys = refl

  -- what was returned from both ends and what is left is the list: each entry is returned once
  pub walk_splits : (ss : List End) (xs : List X) → given_front ss xs
      ++ (walk_leaves ss xs ++ given_back ss xs) ≡ xs
  walk_splits [] xs = append-nil xs
  walk_splits (Front ∷ ss) xs =
      cons_append (first_of xs) (given_front ss (after_first_of xs)) _
      ∙ ap (cons_option (first_of xs)) (walk_splits ss (after_first_of xs)) ∙ first_splits xs
  walk_splits (Back ∷ ss) xs =
      ap (λ r. given_front ss (before_last_of xs) ++ r) (sym
      (append_assoc (walk_leaves ss (before_last_of xs)) (given_back ss (before_last_of xs))
      (option_to_list (last_of xs))))
      ∙ sym (append_assoc (given_front ss (before_last_of xs)) _ (option_to_list (last_of xs)))
      ∙ ap (λ r. r ++ option_to_list (last_of xs)) (walk_splits ss (before_last_of xs)) ∙ last_splits xs

  length_step : (s : End) (xs : List X) → length (step_leaves s xs) ≡ length xs - 1
  length_step Front xs = length-drop 1 xs
  length_step Back xs = let c = length-take (length xs - 1) xs in omega arith

  -- the size hint is the number of elements left: each step lowers it by one, down to 0
  pub length-walk_leaves : (ss : List End) (xs : List X) → length (walk_leaves ss xs) ≡ length xs - length ss
  length-walk_leaves [] xs = omega arith
  length-walk_leaves (s ∷ ss) xs =
      let a = length-walk_leaves ss (step_leaves s xs) in
      let b = length_step s xs in
      let c : length (s ∷ ss) ≡ suc (length ss) = refl in
      omega arith

pub ruleset walks = (takes_first, takes_last, length-walk_leaves, walk_splits)
