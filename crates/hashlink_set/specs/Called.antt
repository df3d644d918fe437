-- The calls of a closure at elements.
use Rattle.std.specs.{Prelude.{◌≡◌, Bool, false, List, MatchOption}, Borrow.Bor, Fn.{Mut, CalledAt, TakesAt}}
use Rattle.std.specs.{List.{find, list_any}, Map.Calls.CallableOnEachPair, Set.is_member}
use Rattle.hashlink_model.specs.Sets.{SetState, at_element}

-- f may be called at each element, in the state that its calls at the elements before left
abbrev pub CallableOnEachElement : {F T S : Type 0} → Mut F (Bor T × Unit {0}) Bool → F
    → SetState T S → Type 0
CallableOnEachElement calls f s =
    CallableOnEachPair (at_element (CalledAt calls)) (λ g t _. TakesAt calls g t) f s.entries

-- U f t b g states that a call of the closure f on the element t may return b, and leave the closure as g
module _ {F T : Type 0} (U : F → T → Bool → F → Type 0) where
  -- the closure was called on t, and returned b
  abbrev pub HasAnswered : Bool → T → Type 0
  HasAnswered b t = (f : F) × (g : F) × U f t b g

  -- a retain: the closure was called on each element, and its result decides whether the element is left. No
  -- other element is present
  abbrev pub SetUpdatesKept : (T → T → Bool) → List T → List T → Type 0
  SetUpdatesKept eq old new =
      ((q : T) → MatchOption (find (eq q) old) (is_member eq new q ≡ false)
      (HasAnswered (is_member eq new q)))
      × ((test : T → Bool) → list_any test old ≡ false → list_any test new ≡ false)
