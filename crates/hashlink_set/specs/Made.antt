-- An element that a closure makes if no equal one is present.
use Rattle.std.specs.Prelude.{◌≡◌, Bool, false, length, None, Some, MatchOption, Result, MatchResult}
use Rattle.std.specs.{Borrow.Bor, Fn.{Once, FnOnceTakesAt, FnOnceReturnsAt}, List.find, Option.UnwrapsOrElse}
use Rattle.std.specs.Set.{is_member}
use Rattle.hashlink_model.specs.{MapState.{AddsEntry, RefusesEntry}, Sets.{SetState, elements_of}}
use Rattle.hashlink_model.specs.Steps.{Moves}

module _ {T S : Type 0} (eq : T → T → Bool) where
  -- if no element is equal to t, then f may be called at t, and no element is equal to what it returns
  abbrev pub CanMakeAbsent : {F : Type 0} → Once F (Bor T × Unit {0}) T → F → SetState T S → T → Type 0
  CanMakeAbsent calls f s t =
      find (eq t) (elements_of s) ≡ None
      → FnOnceTakesAt calls f t
      × ((x : T) → FnOnceReturnsAt calls f t x → is_member eq (elements_of s) x ≡ false)

  -- `get_or_insert_with`, by its result; `Makes x` states that the closure may return x. Either the element
  -- equal to t moved to the end and is returned, or there was none, and the new element was inserted last or
  -- was refused
  abbrev pub GetsOrMakes : (T → Type 0) → SetState T S → SetState T S → T → Result T T → Type 0
  GetsOrMakes Makes old new t r =
      MatchResult r (λ x. UnwrapsOrElse (find (eq t) (elements_of old)) Makes x
      × MatchOption (find (eq t) (elements_of old)) (AddsEntry eq old new x tt (length old.entries))
      (λ _. Moves eq old new t (length old.entries) (Some tt)))
      (λ x. (find (eq t) (elements_of old) ≡ None) × Makes x × RefusesEntry eq old new x tt (x, tt))
