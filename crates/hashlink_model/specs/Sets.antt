-- Sets: a set is a map with `()` as value, so its state is a map's, and its steps are the map's steps.
use Rattle.std.specs.Prelude.{◌≡◌, ℕ, Bool, cond, List, [], ◌∷◌, ◌++◌, length, map, unwrap_or, Option, None}
use Rattle.std.specs.{Prelude.{Some, Result, Ok, Err, MatchOption, MatchResult}, List.find, Map.keys_of}
use Rattle.std.specs.Set.{is_member, swap_key}
use Rattle.hashlink_model.specs.{Entries.{place_of, put}, Entry.ReplacesKey}
use Rattle.hashlink_model.specs.MapState.{MapState, AddsEntry, RefusesEntry, Inserts}

-- a set as a contract sees it, and its elements, front first
abbrev pub SetState : Type 0 → Type 0 → Type 0
SetState T S = MapState T (Unit {0}) S

abbrev pub elements_of : {T S : Type 0} → SetState T S → List T
elements_of m = keys_of m.entries

module _ {T : Type 0} where
  -- the elements as entries
  abbrev pub pairs_of : List T → List (T × Unit {0})
  pairs_of ts = map (λ t. (t, tt)) ts

  module _ (eq : T → T → Bool) where
    -- the elements after one is put at the place b: a present one moves to b and stays the object that it is
    abbrev pub put_element : List T → T → ℕ → List T
    put_element ts t b = keys_of (put eq (pairs_of ts) t tt b)

    -- the elements after `replace`: the given one takes the place of an equal one, or is added last if there
    -- is none
    abbrev pub replaced : List T → T → List T
    replaced ts t = cond (is_member eq ts t) (swap_key (eq t) ts t) (ts ++ t ∷ [])

    -- the object that the set has for t: its own if an equal one is present, else t
    abbrev pub stored_element : List T → T → T
    stored_element ts t = unwrap_or (find (eq t) ts) t

module _ {T S : Type 0} (eq : T → T → Bool) where
  -- `insert`, by its result, which is whether the element was new: a new one is added last, and a present one
  -- moves last and stays the object that it is
  abbrev pub SetInserts : SetState T S → SetState T S → T → Result Bool T → Type 0
  SetInserts old new t r =
      MatchResult r (λ b. Inserts eq old new t tt (length old.entries) (Ok (cond b None (Some tt))))
      (λ x. Inserts eq old new t tt (length old.entries) (Err (x, tt)))

  -- `get_or_insert`: the same, and the object that now is the last is lent
  abbrev pub GetsOrInserts : SetState T S → SetState T S → T → Result T T → Type 0
  GetsOrInserts old new t r =
      MatchResult r
      (λ x. (b : Bool) × SetInserts old new t (Ok b) × (x ≡ stored_element eq (elements_of old) t))
      (λ x. SetInserts old new t (Err x))

  -- t was stored at the place of the equal element x
  pub record SwapsElement (old new : SetState T S) (t x : T) : Type 0 where
    pub place : ℕ
    pub there : place_of (eq t) old.entries ≡ Some place
    pub swaps : ReplacesKey old new place t x

  -- `replace`, by its result: the element that was taken out, if there was one
  abbrev pub SetReplaces : SetState T S → SetState T S → T → Result (Option T) T → Type 0
  SetReplaces old new t r =
      MatchResult r
      (λ o. MatchOption o (AddsEntry eq old new t tt (length old.entries)) (λ x. SwapsElement old new t x))
      (λ x. RefusesEntry eq old new t tt (x, tt))

-- the calls of a closure that takes only an element, as calls on an entry: the retain of a set is the map's
-- with these calls
abbrev pub at_element : {F T : Type 0} → (F → T → Bool → F → Type 0) → F → T → Unit {0} → Bool
    → Unit {0} → F → Type 0
at_element U f t v b w g = U f t b g
