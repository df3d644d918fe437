-- What a container that is passed by value, or its iterator, has returned.
use Rattle.std.proofs.Common.{◌≡◌, ℕ, List, [], ◌∷◌, ◌++◌, Option, None, Some, Result, sym, ap, refl}
use Rattle.std.proofs.Common.{subst, ◌∙◌}
use Rattle.std.proofs.lemmas.List.{append-nil, append_assoc, Sums.fold-append}
use Rattle.std.specs.Iterator.{DrainsIf, Yields, YieldsThen}
use Rattle.std.specs.{Map.Iter.TakesFirst, Prelude.fold}
use Rattle.hashlink_core.proofs.InTurn.{stops_before}
use Rattle.hashlink_map.proofs.Taken.{taken_all, taken_front}
use Rattle.hashlink_model.specs.Many.{AcceptsAll, StopsAt}

-- ---- what a container that is passed by value, or its iterator, has returned

module _ {X State A : Type 0} (step : State → State → X → Result A X → Type 0) (es : List X) where
  module _ (old new : State) where
    -- goal: an `extend` or a `from_iter` read all items
    pub extended_by_all : (it items rest : List X) × (it ≡ es)
        × YieldsThen (TakesFirst (λ x. x)) it items None rest × AcceptsAll step old items new
        → AcceptsAll step old es new
    extended_by_all h = subst (λ xs. AcceptsAll step old xs new) (sym (taken_all h.0 h.1 h.2 h.4) ∙ h.3) h.5

    -- goal: an `extend` read some items, and one of them was refused
    pub extended_until : (taken : ℕ) (back : X) (items left : List X)
        → Yields (TakesFirst (λ x. x)) es items left → StopsAt step old items new taken back []
        → StopsAt step old es new taken back left
    extended_until taken back items left y stops =
        subst (λ xs. StopsAt step old xs new taken back left) (sym (taken_front es items left y))
        (stops_before step old new items left taken back stops)

-- ---- an iterator that gives its list away, as a drain does: `rest` is what is left of it

module _ {I X : Type 0} (steps : I → Option X → I → Type 0) (rest : I → List X) where
  -- each step returns the first of what is left, or nothing at its end
  abbrev pub StepsTakeFirst : Type 0
  StepsTakeFirst = (i : I) (o : Option X) (j : I) → steps i o j → TakesFirst (λ x. x) (rest i) o (rest j)

  module _ (takes : StepsTakeFirst) where
    given_front : (i : I) (xs : List X) (j : I) → Yields steps i xs j → rest i ≡ xs ++ rest j
    given_front i [] j y = ap rest y
    given_front i (x ∷ xs) j y =
        takes i (Some x) y.0 y.1 ∙ ap (λ ys. x ∷ ys) (given_front y.0 xs j y.2)

    -- goal: what `drain().collect(alloc)` gave, by its clause `ran`
    pub given_all : {W : Type 0} → W → (i : I) (xs : List X) → DrainsIf steps W i xs → rest i ≡ xs
    given_all w i xs ran =
        let end = ran.2 w in
        given_front i xs ran.0 ran.1 ∙ ap (λ ys. xs ++ ys) (takes ran.0 None end.0 end.1).0 ∙ append-nil xs

-- ---- a loop by value, whose body takes a step with each item

module _ {X Y : Type 0} (step : Y → X → Y) where
  -- of the items xs those before `left` were returned, and the steps with them led from `old` to `now`
  abbrev pub StepsSoFar : Y → List X → List X → Y → Type 0
  StepsSoFar old xs left now = (gone : List X) × (xs ≡ gone ++ left) × (now ≡ fold step old gone)

  -- goal: this invariant at the start of the loop, after one more item, and after the loop
  pub StepsSoFar-start : (old : Y) (xs left : List X) → left ≡ xs → StepsSoFar old xs left old
  StepsSoFar-start old xs left is = ([], sym is, refl)

  module _ (old : Y) (xs left : List X) (now : Y) where
    pub StepsSoFar-next : (x : X) (rest : List X) (new : Y) → StepsSoFar old xs left now → left ≡ x ∷ rest
        → new ≡ step now x → StepsSoFar old xs rest new
    StepsSoFar-next x rest new (gone, is, so_far) next stepped = (
      gone ++ x ∷ [],
      is ∙ ap (λ ys. gone ++ ys) next ∙ sym (append_assoc gone (x ∷ []) rest),
      stepped ∙ ap (λ y. step y x) so_far ∙ sym (fold-append step old gone (x ∷ [])),
    )

    pub StepsSoFar-end : StepsSoFar old xs left now → left ≡ [] → now ≡ fold step old xs
    StepsSoFar-end (gone, is, so_far) end =
        so_far ∙ ap (fold step old) (sym (is ∙ ap (λ ys. gone ++ ys) end ∙ append-nil gone))
