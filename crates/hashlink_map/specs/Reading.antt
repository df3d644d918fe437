-- What a call reads from an iterator: the entries from a key on; all or some of its items; and, for an
-- iterator that the caller keeps, that no more was read.
use Rattle.std.specs.{Prelude.{Bool, List, [], drop, Option, None}, Iterator.{Yields, YieldsThen}}
use Rattle.std.specs.Option.{option_map_or}
use Rattle.hashlink_model.specs.Entries.{place_of}

-- the entries from the first whose key passes the test; none if no key passes
abbrev pub entries_from : {K V : Type 0} → (K → Bool) → List (K × V) → List (K × V)
entries_from test es = option_map_or (λ j. drop j es) (place_of test es) []

-- for a value that is passed, and becomes an iterator
module _ {Given State Item : Type 0} (becomes : Given → State → Type 0)
    (steps : State → Option Item → State → Type 0) (given : Given) where
  -- the iterator returned a list of items for which P holds, and then `None`
  abbrev pub ReadsAll : (List Item → Type 0) → Type 0
  ReadsAll P =
      (it : State) × (items : List Item) × (rest : State) × becomes given it
      × YieldsThen steps it items None rest
      × P items

  -- the iterator returned a list of items for which P holds. It is gone after the call, so a clause cannot
  -- state what it was asked afterwards
  abbrev pub ReadsSome : (List Item → Type 0) → Type 0
  ReadsSome P =
      (it : State) × (items : List Item) × (rest : State) × becomes given it
      × Yields steps it items rest × P items

-- for an iterator that the caller keeps, from before the call to after it
module _ {State Item : Type 0} (steps : State → Option Item → State → Type 0) (before after : State) where
  -- the iterator returned a list of items for which P holds, and then `None`
  abbrev pub GivesAll : (List Item → Type 0) → Type 0
  GivesAll P = (items : List Item) × YieldsThen steps before items None after × P items

  -- the iterator returned a list of items for which P holds, and was asked for no more
  abbrev pub GivesSome : (List Item → Type 0) → Type 0
  GivesSome P = (items : List Item) × Yields steps before items after × P items
