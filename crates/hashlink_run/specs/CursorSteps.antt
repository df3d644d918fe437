-- The replies of a cursor to its steps, and the state that it reaches.
use Rattle.std.specs.Prelude.{◌≡◌, ◌⊎◌, ℕ, Bool, List, [], ◌∷◌, ◌++◌, Option, Some, Result}
use Rattle.hashlink_model.specs.Cursor.{CursorState, at_place, entry_in, place_next, place_previous}
use Rattle.hashlink_model.specs.{Cursor.{InsertsBefore, InsertsAfter}, MapState.MapState}
use Rattle.hashlink_run.specs.declared.commands.CursorStep.{CursorStep}
use Rattle.hashlink_run.specs.declared.commands.CursorStep.TheVariants as cursor
use Rattle.hashlink_run.specs.{declared.replies.Reply.Reply, CallReplies.insert_reply, Reads.Replies}

-- a cursor on the first entry of a map, or on its guard
abbrev pub first_place : {K V S : Type 0} → MapState K V S → CursorState K V S
first_place m = record { map = m; place = 0 }

-- the step of a cursor reads the pair
abbrev pub ReadByStep : {K V S : Type 0} → CursorState K V S → CursorStep K V → K × V → Type 0
ReadByStep old cursor.Next pair = entry_in old (place_next old) ≡ Some pair
ReadByStep old cursor.Prev pair = entry_in old (place_previous old) ≡ Some pair
ReadByStep old cursor.Current pair = entry_in old old.place ≡ Some pair
ReadByStep old cursor.PeekNext pair = entry_in old (place_next old) ≡ Some pair
ReadByStep old cursor.PeekPrev pair = entry_in old (place_previous old) ≡ Some pair
ReadByStep old step pair = ⊥

module _ {K V B S : Type 0} (eq : K → K → Bool) (Says : K → V → B → Type 0) where
  -- the cursor goes to index i, and the pair there is read
  abbrev pub GoesAndReads : CursorState K V S → ℕ → List (Reply K V B) → CursorState K V S → Type 0
  GoesAndReads old i replies new = (new ≡ at_place old i) × Replies Says (entry_in old i) replies

  -- the cursor stays, and the pair at index i is read
  abbrev pub Peeks : CursorState K V S → ℕ → List (Reply K V B) → CursorState K V S → Type 0
  Peeks old i replies new = (new ≡ old) × Replies Says (entry_in old i) replies

  -- one step
  abbrev pub CursorStepped : CursorState K V S → CursorStep K V → List (Reply K V B)
      → CursorState K V S → Type 0
  CursorStepped old cursor.Next replies new = GoesAndReads old (place_next old) replies new
  CursorStepped old cursor.Prev replies new = GoesAndReads old (place_previous old) replies new
  CursorStepped old cursor.Current replies new = Peeks old old.place replies new
  CursorStepped old cursor.PeekNext replies new = Peeks old (place_next old) replies new
  CursorStepped old cursor.PeekPrev replies new = Peeks old (place_previous old) replies new
  CursorStepped old (cursor.Before k v) replies new =
      (answer : Result (Option V) (K × V)) × InsertsBefore eq old new k v answer
      × (replies ≡ insert_reply answer ∷ [])
  CursorStepped old (cursor.After k v) replies new =
      (answer : Result (Option V) (K × V)) × InsertsAfter eq old new k v answer
      × (replies ≡ insert_reply answer ∷ [])

  -- steps in order, with the replies to all of them
  abbrev pub CursorWalks : CursorState K V S → List (CursorStep K V) → List (Reply K V B)
      → CursorState K V S → Type 0
  CursorWalks old [] replies new = (replies ≡ []) × (new ≡ old)
  CursorWalks old (step ∷ steps) replies new =
      (first : List (Reply K V B)) × (between : CursorState K V S) × (more : List (Reply K V B))
      × CursorStepped old step first between × CursorWalks between steps more new × (replies ≡ first ++ more)

  -- steps from the first entry, and the map that they leave
  abbrev pub CursorSteps : MapState K V S → List (CursorStep K V) → List (Reply K V B)
      → MapState K V S → Type 0
  CursorSteps old steps replies new =
      (end : CursorState K V S) × CursorWalks (first_place old) steps replies end × (new ≡ end.map)

  -- one of the steps, run in order, may read the pair
  abbrev pub ReadOnWalk : CursorState K V S → List (CursorStep K V) → K × V → Type 0
  ReadOnWalk old [] pair = ⊥
  ReadOnWalk old (step ∷ steps) pair =
      ReadByStep old step pair
      ⊎ ((replies : List (Reply K V B)) × (next : CursorState K V S) × CursorStepped old step replies next
      × ReadOnWalk next steps pair)
