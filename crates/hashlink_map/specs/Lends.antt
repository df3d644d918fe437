-- A map, after a `&mut` to one of its values has ended.
use Rattle.std.specs.Prelude.{◌≡◌, ℕ, ◌-◌, Bool, Option, OnSome, length, ⊤}
use Rattle.std.specs.Borrow.{Fml, RattleType, MutBor, Lends, LendsSo, follows_so}
use mathlib.Core.Option.{none}
use Rattle.hashlink_map.specs.{Bounds.{HasherGhosts, BuilderGhosts}, contracts.map.LinkedHashMap.the_row}
use Rattle.hashlink_model.specs.{MapState.with_value, Steps.{with_match_value, MovesMatchAndWrites}}
use Rattle.hashlink_core.specs.{Keyed.{Keyed, state_of, entries_of}, KeyedLends.{HashMembers, with_value_at}}
use Rattle.hashlink_core.specs.Places.{Node}

module _ (K V S T : RattleType) (g : HashMembers K.Denot) (b : BuilderGhosts S.Denot T.Denot)
    (w : HasherGhosts T.Denot) where
  abbrev pub map_row : RattleType
  map_row = the_row K V S T (record { eq = g.eq }) (record { hash_input = g.hash_input }) b w

  -- the map ends as it was
  abbrev pub StaysAsItWas : MutBor (Keyed K.Denot V.Denot S.Denot) → Fml
  StaysAsItWas m = follows_so map_row map_row m.ghost_name none (λ _ _. ⊤) (λ new. new ≡ m.now)

  -- the value of the node is lent: the map ends with the written value there
  abbrev pub LendsAtNode : MutBor (Keyed K.Denot V.Denot S.Denot) → Node → MutBor V.Denot → Fml
  LendsAtNode m n r = Lends map_row V m r (with_value_at m.now n)

  -- the last value is lent: the map ends with the written value there, or as it was if it is empty
  abbrev pub LendsLastValue : MutBor (Keyed K.Denot V.Denot S.Denot) → Option (MutBor V.Denot) → Fml
  LendsLastValue m r =
      LendsSo map_row V m r
      (λ new v. OnSome r (state_of new ≡ with_value (state_of m.now) (length (entries_of m.now) - 1) v))
      (λ new. state_of new ≡ state_of m.now)

  module _ (m : MutBor (Keyed K.Denot V.Denot S.Denot)) (test : K.Denot → Bool) where
    -- the value of the first key that passes is lent: the map ends with the written value there, or as it was
    -- if none passes
    abbrev pub LendsValueOf : Option (MutBor V.Denot) → Fml
    LendsValueOf r =
        LendsSo map_row V m r
        (λ new v. state_of new ≡ with_match_value test (state_of m.now) v)
        (λ new. state_of new ≡ state_of m.now)

    -- its entry moved to the place p, and its value is lent: the map ends with the written value there, or as
    -- it was if none passes
    abbrev pub LendsMoved : ℕ → Option (MutBor V.Denot) → Fml
    LendsMoved p r =
        LendsSo map_row V m r
        (λ new v. MovesMatchAndWrites test (state_of m.now) (state_of new) p v)
        (λ new. state_of new ≡ state_of m.now)
