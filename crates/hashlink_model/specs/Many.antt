-- Many items in turn, each by the same step: `step old new item r` is the step of one item, with its result.
use Rattle.std.specs.Prelude.{◌≡◌, ℕ, ◌-◌, ◌^◌, min, List, [], ◌∷◌, ◌++◌, length, Bool, Option, Result, Ok}
use Rattle.std.specs.Prelude.{Err, MatchResult}
use Rattle.hashlink_model.specs.MapState.{MapState, Inserts, empty_map}

module _ {State Item A : Type 0} (step : State → State → Item → Result A Item → Type 0) where
  -- each item in turn was accepted
  abbrev pub AcceptsAll : State → List Item → State → Type 0
  AcceptsAll old [] new = new ≡ old
  AcceptsAll old (i ∷ items) new =
      (between : State) × (a : A) × step old between i (Ok a) × AcceptsAll between items new

  -- one item was refused and handed back. The items before it were accepted in turn, and `left` are the items
  -- after it. `taken` is the number of accepted items, or the greatest `u64` if there were more
  pub record StopsAt (old : State) (items : List Item) (new : State) (taken : ℕ) (back : Item)
      (left : List Item) : Type 0 where
    pub before : List Item
    pub item : Item
    pub is : items ≡ before ++ item ∷ left
    pub between : State
    pub accepted : AcceptsAll old before between
    pub refused : step between new item (Err back)
    pub count : taken ≡ min (length before) (2 ^ 64 - 1)

  -- the same for a result that has neither the item nor the number: the last of the items was refused
  abbrev pub StopsAtLast : State → List Item → State → Type 0
  StopsAtLast old items new = (taken : ℕ) × (back : Item) × StopsAt old items new taken back []

  -- many items, by the result: all were accepted, or one was refused, with the parts (taken, back, left)
  abbrev pub Extends : {B : Type 0} → State → List Item → State → Result B (ℕ × Item × List Item) → Type 0
  Extends old items new r =
      MatchResult r (λ _. AcceptsAll old items new) (λ e. StopsAt old items new e.0 e.1 e.2)

-- a map with the hasher s that is made from the items in turn, by a map's step
abbrev pub MadeFrom : {K V S Item A : Type 0}
    → (MapState K V S → MapState K V S → Item → Result A Item → Type 0)
    → List Item → S → MapState K V S → Type 0
MadeFrom step items s m = AcceptsAll step (empty_map s) items m

-- the map's insert of a pair at the end
abbrev pub InsertsPair : {K V S : Type 0} → (K → K → Bool) → MapState K V S → MapState K V S → K × V
    → Result (Option V) (K × V) → Type 0
InsertsPair eq old new p r = Inserts eq old new p.0 p.1 (length old.entries) r
