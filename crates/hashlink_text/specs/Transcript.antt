-- The answer to a line to a map, and to several lines: each line leads from one state to the next, and is
-- answered by one line. The map's own choices are open: whether an insert that needs a new node is refused,
-- whether a shrink of a map that isn't empty is refused, and for how many nodes there is room.
use Rattle.std.specs.Prelude.{◌≡◌, ℕ, List, [], ◌∷◌, ◌++◌, map, codes, decimal, nat_eq, Option, None, Some}
use Rattle.std.specs.{Prelude.string_bytes, List.join_with_byte, Option.option_map_or}
use Rattle.std.specs.declared.string.String.{String}
use Rattle.hashlink_model.specs.MapState.{MapState}
use Rattle.hashlink_text.specs.{Spelling.{Said, Do, Cursor, Iter, Says, spelled}, declared.shown.Form.Form}
use Rattle.hashlink_text.specs.declared.shown.Form.TheVariants.{OfValue, Whole, OrGiven}
use Rattle.hashlink_run.specs.declared.commands.Command.{Command}
use Rattle.hashlink_run.specs.declared.commands.Command.TheVariants as command
use Rattle.hashlink_run.specs.declared.commands.EntryStep.TheVariants as step
use Rattle.hashlink_run.specs.declared.replies.Reply.TheVariants.{Done, Denied, Value, Pair, Key, Seen}
use Rattle.hashlink_run.specs.declared.replies.{Reply.Reply, Reply.TheVariants.{Length, Refused, TooHeavy}}
use Rattle.hashlink_run.specs.{CursorSteps.CursorSteps, Keeps.IsEven, Step.Step}

-- a text with the end of its line
abbrev pub ended : List ℕ → List ℕ
ended text = text ++ 10 ∷ []

-- ---- how numbers, pairs and replies are shown

abbrev pub pair_shown : ℕ × ℕ → List ℕ
pair_shown pair = decimal pair.0 ++ (codes ":" ++ decimal pair.1)

-- the value, or a dash if there is none
abbrev pub shown_by : {X : Type 0} → (X → List ℕ) → Option X → List ℕ
shown_by show None = codes "-"
shown_by show (Some x) = show x

-- the pairs, front first, with one space between two
abbrev pub list_shown : List (ℕ × ℕ) → List ℕ
list_shown [] = codes "empty"
list_shown (pair ∷ pairs) = join_with_byte 32 (map pair_shown (pair ∷ pairs))

-- how a command to a map shows a pair that it read. A pair at an end or at a cursor's place is shown whole,
-- and the pair of a named key by its value. If an `or_insert` finds no pair, it shows the value that it
-- inserts
abbrev pub form_of : Command ℕ ℕ → Form
form_of command.Front = Whole
form_of command.Back = Whole
form_of (command.Cursor steps) = Whole
form_of (command.Entry k (step.OrInsert v)) = OrGiven v
form_of command = OfValue

abbrev pub read_shown : Form → Option (ℕ × ℕ) → List ℕ
read_shown OfValue pair = shown_by (λ p. decimal p.1) pair
read_shown Whole pair = shown_by pair_shown pair
read_shown (OrGiven v) pair = decimal (option_map_or (λ p. p.1) pair v)

-- a reply, if the closure returns the pair that was read
abbrev pub reply_shown : Form → Reply ℕ ℕ (ℕ × ℕ) → List ℕ
reply_shown form Done = codes "ok"
reply_shown form Denied = codes "memory"
reply_shown form (Value value) = shown_by decimal value
reply_shown form (Pair pair) = shown_by pair_shown pair
reply_shown form (Key key) = shown_by decimal key
reply_shown form (Seen pair) = read_shown form pair
reply_shown form (Length n) = decimal n
reply_shown form (Refused key value) = codes "memory"
reply_shown form (TooHeavy key value) = codes "heavy"

-- the replies, with one space between two
abbrev pub replies_shown : Form → List (Reply ℕ ℕ (ℕ × ℕ)) → List ℕ
replies_shown form replies = join_with_byte 32 (map (reply_shown form) replies)

-- for a pair that is read, the closure returns the pair itself
abbrev pub Itself : ℕ → ℕ → ℕ × ℕ → Type 0
Itself k v pair = pair ≡ (k, v)

-- ---- the answer to a line, and to a text

module _ {S : Type 0} where
  -- starting at old, this text may answer a line with this meaning, and the map reaches new; a bad line
  -- changes nothing
  abbrev pub Shows : MapState ℕ ℕ S → Option Said → List ℕ → MapState ℕ ℕ S → Type 0
  Shows old None text new = (text ≡ codes "bad") × (new ≡ old)
  Shows old (Some Iter) text new = (text ≡ list_shown old.entries) × (new ≡ old)
  Shows old (Some (Do command)) text new =
      (replies : List (Reply ℕ ℕ (ℕ × ℕ))) × Step nat_eq Itself IsEven old command replies new
      × (text ≡ replies_shown (form_of command) replies)
  Shows old (Some (Cursor steps)) text new =
      (replies : List (Reply ℕ ℕ (ℕ × ℕ))) × CursorSteps nat_eq Itself old steps replies new
      × (text ≡ replies_shown Whole replies)

  abbrev pub LineShows : MapState ℕ ℕ S → List ℕ → List ℕ → MapState ℕ ℕ S → Type 0
  LineShows old line text new = (said : Option Said) × Says spelled line said × Shows old said text new

-- starting at old, this text may answer the lines, a line for each, and the state becomes new. `ShowsLine`
-- states which text may answer one line
module _ {M : Type 0} (ShowsLine : M → List ℕ → List ℕ → M → Type 0) where
  abbrev pub ShowsAll : M → List (List ℕ) → List ℕ → M → Type 0
  ShowsAll old [] text new = (text ≡ []) × (new ≡ old)
  ShowsAll old (line ∷ lines) text new =
      (answer : List ℕ) × (between : M) × (more : List ℕ)
      × ShowsLine old line answer between × ShowsAll between lines more new × (text ≡ ended answer ++ more)

-- ---- writes to the end of a text

module _ {A : Type 0} where
  -- a text for which P holds
  abbrev pub Pushes : (List ℕ → Type 0) → String A → String A → Type 0
  Pushes P old new = (text : List ℕ) × P text × (string_bytes new ≡ string_bytes old ++ text)

  -- such a text and the end of its line
  abbrev pub PushesLine : (List ℕ → Type 0) → String A → String A → Type 0
  PushesLine P old new = (text : List ℕ) × P text × (string_bytes new ≡ string_bytes old ++ ended text)
