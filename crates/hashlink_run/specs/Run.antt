-- Lists of commands: a run is a chain of steps. What holds along it.
use Rattle.std.specs.Prelude.{◌≡◌, ◌⊎◌, ℕ, ◌+◌, ◌<◌, ◌≤◌, Bool, true, false, List, [], ◌∷◌, length, take}
use Rattle.std.specs.{Prelude.{drop, slice_get, Some}, List.AllPass}
use Rattle.hashlink_history.specs.Peak.{Passed, Length, Shrunk, peak}
use Rattle.hashlink_model.specs.MapState.{MapState, node_count, MayRefuse}
use Rattle.hashlink_run.specs.declared.commands.{Command.Command, Command.TheVariants.{Clear, Shrink}}
use Rattle.hashlink_run.specs.{declared.replies.Reply.Reply, CallReplies.is_refused}
use Rattle.hashlink_run.specs.{Chain.{Answered, Chain, Chained, ComesTo, after}, Step.{AskedBy, ReadBy, Step}}
pub use Rattle.hashlink_run.specs.Step.{reply_count}

module _ {K V B S : Type 0} (eq : K → K → Bool) (Says : K → V → B → Type 0)
    (Keeps : K → V → Bool → Type 0) where
  -- starting at old, the map may reply to the commands, in order, as `answers` states
  abbrev pub Run : MapState K V S → List (Command K V) → List (Answered (Reply K V B) (MapState K V S))
      → Type 0
  Run = Chain (Step eq Says Keeps)

  -- the same with all replies joined, and with the state at the end
  abbrev pub Runs : MapState K V S → List (Command K V) → List (Reply K V B) → MapState K V S → Type 0
  Runs = Chained (Step eq Says Keeps)

  -- starting at old, one of the commands may show the pair to the closure: it reads the pair, or it is a keep
  pub record ShownBy (old : MapState K V S) (commands : List (Command K V)) (pair : K × V) : Type 0 where
    pub comes : ComesTo (Step eq Says Keeps)
        (λ now command pair. ReadBy eq Says now command pair ⊎ AskedBy now command pair) old commands pair

module _ {K V : Type 0} where
  -- how many replies the commands have
  abbrev pub reply_total : List (Command K V) → ℕ
  reply_total [] = 0
  reply_total (command ∷ commands) = reply_count command + reply_total commands

-- ---- what holds along a run

module _ {K V : Type 0} where
  -- what a command passes, by the length after it; for a cursor this is the greatest length along its steps
  abbrev pub passed_at : Command K V → ℕ → Passed
  passed_at Shrink n = Shrunk n
  passed_at command n = Length n

  -- whether a command leaves every node to the map
  abbrev pub keeps_nodes : Command K V → Bool
  keeps_nodes Clear = false
  keeps_nodes Shrink = false
  keeps_nodes command = true

module _ {K V B S : Type 0} where
  abbrev pub passed_by : List (Command K V) → List (Answered (Reply K V B) (MapState K V S)) → List Passed
  passed_by [] answers = []
  passed_by (command ∷ commands) [] = []
  passed_by (command ∷ commands) (a ∷ answers) =
      passed_at command (length a.state.entries) ∷ passed_by commands answers

  module _ (old : MapState K V S) (commands : List (Command K V))
      (answers : List (Answered (Reply K V B) (MapState K V S))) where
    -- after each command the nodes are within the peak
    abbrev pub StaysWithinPeak : Type 0
    StaysWithinPeak = (n : ℕ)
        → node_count (after old answers n)
        ≤ peak (node_count old) (passed_by (take n commands) (take n answers))

    -- if the map was longer before, and no command since released nodes, a node is free. So no insert may be
    -- refused then, and the next command refuses no pair
    abbrev pub TakesKeysWhereShorter : (K → K → Bool) → Type 0
    TakesKeysWhereShorter eq =
        (i j : ℕ) → i ≤ j → AllPass keeps_nodes (drop i (take j commands))
        → length (after old answers j).entries < length (after old answers i).entries
        → (1 ≤ (after old answers j).spare)
        × ((k : K) → ¬ MayRefuse eq (after old answers j) k)
        × ((b : Answered _ _) → slice_get answers j ≡ Some b → is_refused b.replies ≡ false)

-- starting at old, the map may reply to the commands by `replies` and reach `new`, by a chain of steps. Along
-- it the nodes stay within the peak, and a map that is shorter than before accepts new keys
pub record LawfulRun {K V B S : Type 0} (eq : K → K → Bool) (Says : K → V → B → Type 0)
    (Keeps : K → V → Bool → Type 0) (old : MapState K V S) (commands : List (Command K V))
    (replies : List (Reply K V B)) (new : MapState K V S) : Type 0 where
  pub runs : Runs eq Says Keeps old commands replies new
  pub within_peak : StaysWithinPeak old commands runs.answers
  pub shorter : TakesKeysWhereShorter old commands runs.answers eq
