-- The state in which a set ends, after the loan of one of its elements has ended. Nothing can be written
-- through the loan.
use Rattle.std.specs.Prelude.{◌≡◌, Option, Some, MatchOption, Result, Ok, Err, ⊤}
use Rattle.std.specs.Borrow.{Fml, RattleType, Bor, MutBor, follows_so}
use Rattle.std.specs.declared.hash.Hasher as hasher
use Rattle.std.specs.declared.hash.BuildHasher as builder
use mathlib.Core.Option.{none}
use Rattle.hashlink_model.specs.{Sets.{SetState, elements_of, GetsOrInserts}, Walk.last_of}
use Rattle.hashlink_core.specs.KeyedLends.{HashMembers}
use Rattle.hashlink_set.specs.{Made.GetsOrMakes, contracts.set.LinkedHashSet.the_row}

-- the result, with the lent element itself in place of the reference
abbrev pub as_seen : {T E : Type 0} → Result (Bor T) E → Result T E
as_seen (Ok x) = Ok x.now
as_seen (Err e) = Err e

-- what G states of a result, by the element that was refused, if any; else the last element is returned
abbrev pub LastOrRefused : {T S : Type 0} → SetState T S → (Result T T → Type 0) → Option T → Type 0
LastOrRefused {T} new G o =
    MatchOption o ((x : T) × (last_of (elements_of new) ≡ Some x) × G (Ok x)) (λ x. G (Err x))

module _ (T S H : RattleType) (g : HashMembers T.Denot) (b : builder.Ghosts S.Denot H.Denot)
    (w : hasher.Ghosts H.Denot) where
  abbrev pub set_row : RattleType
  set_row = the_row T S H (record { eq = g.eq }) (record { hash_input = g.hash_input }) b w

  module _ (s : MutBor (SetState T.Denot S.Denot)) where
    -- the set ends in a state for which P holds
    abbrev pub EndsSo : (SetState T.Denot S.Denot → Type 0) → Fml
    EndsSo P = follows_so set_row set_row s.ghost_name none (λ _ _. ⊤) P

    -- the set ends unchanged
    abbrev pub StaysAsItWas : Fml
    StaysAsItWas = EndsSo (λ new. new ≡ s.now)

    module _ (t : T.Denot) where
      -- the set ends as an insert of t with this result leaves it
      abbrev pub EndsInserted : Result (Bor T.Denot) T.Denot → Fml
      EndsInserted r = EndsSo (λ new. GetsOrInserts g.eq s.now new t (as_seen r))

      -- the set ends as `get_or_insert_with` with this result leaves it, where `Makes x` states that the
      -- closure may make x
      abbrev pub EndsMade : (T.Denot → Type 0) → Result (Bor T.Denot) T.Denot → Fml
      EndsMade Makes r = EndsSo (λ new. GetsOrMakes g.eq Makes s.now new t (as_seen r))
