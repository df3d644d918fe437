-- The replies of a map to a command, and the state that it reaches. If a command reads a pair, the reply
-- contains a value that `Says` allows for it. A keep goes by values that `Keeps` allows.
use Rattle.std.specs.Prelude.{◌≡◌, ℕ, Bool, List, [], ◌∷◌, length, Option, Some, Result, Contains}
use Rattle.std.specs.{Map.{lookup, lookup_entry}, declared.alloc.AllocError.AllocError}
use Rattle.hashlink_model.specs.{MapState.{MapState, Inserts}, Walk.{first_of, last_of}}
use Rattle.hashlink_model.specs.Steps.{Replaces, RemovesKey, PopsFront, PopsBack, Moves, Clears, Shrinks}
use Rattle.hashlink_run.specs.declared.commands.Command.{Command}
use Rattle.hashlink_run.specs.declared.commands.Command.TheVariants as command
use Rattle.hashlink_run.specs.declared.replies.{Reply.Reply, Reply.TheVariants.{Done, Value, Pair, Length}}
use Rattle.hashlink_run.specs.{CallReplies.{insert_reply, shrink_reply}, Keeps.KeepsWhere}
use Rattle.hashlink_run.specs.{CursorSteps.{CursorSteps, ReadOnWalk, first_place}, Reads.{Replies, Reads}}
use Rattle.hashlink_run.specs.EntrySteps.{EntrySteps, ReadAtEntry}

module _ {K V B S : Type 0} (eq : K → K → Bool) (Says : K → V → B → Type 0)
    (Keeps : K → V → Bool → Type 0) where
  -- an insert at index b
  abbrev pub InsertsWith : MapState K V S → K → V → ℕ → List (Reply K V B) → MapState K V S → Type 0
  InsertsWith old k v b replies new =
      (answer : Result (Option V) (K × V)) × Inserts eq old new k v b answer
      × (replies ≡ insert_reply answer ∷ [])

  -- the key's pair moves to index b, and is read
  abbrev pub MovesAndReads : MapState K V S → K → ℕ → List (Reply K V B) → MapState K V S → Type 0
  MovesAndReads old k b replies new =
      Moves eq old new k b (lookup (eq k) old.entries)
      × Replies Says (lookup_entry (eq k) old.entries) replies

  -- starting at old, the map may reply to the command by `replies` and reach `new`
  abbrev pub Step : MapState K V S → Command K V → List (Reply K V B) → MapState K V S → Type 0
  Step old (command.Insert k v) replies new = InsertsWith old k v (length old.entries) replies new
  Step old (command.InsertFront k v) replies new = InsertsWith old k v 0 replies new
  Step old (command.Replace k v) replies new =
      (answer : Result (Option V) (K × V)) × Replaces eq old new k v answer
      × (replies ≡ insert_reply answer ∷ [])
  Step old (command.Get k) replies new = Reads Says old (lookup_entry (eq k) old.entries) replies new
  Step old (command.Remove k) replies new =
      RemovesKey eq old new k (lookup_entry (eq k) old.entries)
      × (replies ≡ Value (lookup (eq k) old.entries) ∷ [])
  Step old (command.RemoveEntry k) replies new =
      RemovesKey eq old new k (lookup_entry (eq k) old.entries)
      × (replies ≡ Pair (lookup_entry (eq k) old.entries) ∷ [])
  Step old command.PopFront replies new =
      PopsFront old new (first_of old.entries) × (replies ≡ Pair (first_of old.entries) ∷ [])
  Step old command.PopBack replies new =
      PopsBack old new (last_of old.entries) × (replies ≡ Pair (last_of old.entries) ∷ [])
  Step old (command.ToFront k) replies new = MovesAndReads old k 0 replies new
  Step old (command.ToBack k) replies new = MovesAndReads old k (length old.entries) replies new
  Step old command.Front replies new = Reads Says old (first_of old.entries) replies new
  Step old command.Back replies new = Reads Says old (last_of old.entries) replies new
  Step old command.Len replies new = (new ≡ old) × (replies ≡ Length (length old.entries) ∷ [])
  Step old command.Clear replies new = Clears old new × (replies ≡ Done ∷ [])
  Step old command.Shrink replies new =
      (answer : Result (Unit {0}) AllocError) × Shrinks old new answer × (replies ≡ shrink_reply answer ∷ [])
  Step old command.Keep replies new = KeepsWhere Keeps old new × (replies ≡ Done ∷ [])
  Step old (command.Entry k step) replies new = EntrySteps eq Says old k step replies new
  Step old (command.Cursor steps) replies new = CursorSteps eq Says old steps.items replies new

module _ {K V : Type 0} where
  -- the number of replies to a command: one, or one for each step of a cursor
  abbrev pub reply_count : Command K V → ℕ
  reply_count (command.Cursor steps) = length steps.items
  reply_count command = 1

-- the command, run on old, may read the pair
abbrev pub ReadBy : {K V B S : Type 0} → (K → K → Bool) → (K → V → B → Type 0) → MapState K V S → Command K V
    → K × V → Type 0
ReadBy eq Says old (command.Get k) pair = lookup_entry (eq k) old.entries ≡ Some pair
ReadBy eq Says old (command.ToFront k) pair = lookup_entry (eq k) old.entries ≡ Some pair
ReadBy eq Says old (command.ToBack k) pair = lookup_entry (eq k) old.entries ≡ Some pair
ReadBy eq Says old command.Front pair = first_of old.entries ≡ Some pair
ReadBy eq Says old command.Back pair = last_of old.entries ≡ Some pair
ReadBy eq Says old (command.Entry k step) pair = ReadAtEntry eq old k step pair
ReadBy eq Says old (command.Cursor steps) pair = ReadOnWalk eq Says (first_place old) steps.items pair
ReadBy eq Says old command pair = ⊥

-- the command is a keep, and the closure is called on the pair
abbrev pub KeepAsks : {K V S : Type 0} → MapState K V S → Command K V → K × V → Type 0
KeepAsks old command.Keep pair = Contains old.entries pair
KeepAsks old command pair = ⊥

-- the same as a record: terms of it are compared by its arguments, which is cheap
pub record AskedBy {K V S : Type 0} (old : MapState K V S) (command : Command K V) (pair : K × V)
    : Type 0 where
  pub asks : KeepAsks old command pair
