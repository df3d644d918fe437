-- A container after std's `extend`, whose error names no item.
use Rattle.std.specs.Prelude.{List, Result}
use Rattle.hashlink_model.specs.Many.{AcceptsAll}

-- the items were inserted in turn; then only the changes of a refusal were made, if any
abbrev pub TakesItems : {State Item A : Type 0} → (State → State → Item → Result A Item → Type 0)
    → (State → State → Type 0) → State → List Item → State → Type 0
TakesItems {State} step refuses old items new =
    (between : State) × AcceptsAll step old items between × refuses between new
