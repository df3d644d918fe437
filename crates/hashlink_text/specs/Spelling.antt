-- The spelling of what a line may mean. A text means the one whose spelling it is. Each spelling is followed
-- by a list of all meanings with given numbers; a reader looks the first word of a line up in it.
use Rattle.hashlink_run.specs.declared.cache_commands.CacheCommand.TheVariants as cache
use Rattle.hashlink_run.specs.declared.cache_commands.PairCommand.TheVariants as pair
use Rattle.hashlink_run.specs.declared.cache_commands.WeightedCommand.TheVariants as weighted
use Rattle.hashlink_run.specs.declared.commands.Command.TheVariants as command
use Rattle.hashlink_run.specs.declared.commands.CursorStep.TheVariants as cursor
use Rattle.hashlink_run.specs.declared.commands.EntryStep.TheVariants as step
use Rattle.hashlink_text.specs.declared.cache_line.CacheLine.TheVariants as cache_line
use Rattle.hashlink_text.specs.declared.line.Line.TheVariants as line
use Rattle.hashlink_text.specs.declared.modes.Mode.TheVariants as mode
use Rattle.hashlink_text.specs.declared.weighted_line.WeightedLine.TheVariants as weighted_line
use Rattle.std.specs.Prelude.{◌≡◌, ◌↔◌, ℕ, ◌^◌, ◌<◌, List, [], ◌∷◌, map, codes, decimal, Option, None, Some}
use Rattle.std.specs.{Prelude.{nat_le, if◌then◌else◌}, Option.option_map}
use Rattle.std.specs.List.{AllByRecursion, flat_map, join_with_byte}
use Rattle.hashlink_run.specs.declared.cache_commands.PairCommand.{PairCommand}
use Rattle.hashlink_run.specs.declared.commands.CursorStep.{CursorStep}
use Rattle.hashlink_run.{specs.declared.commands.Command.Command, specs.declared.commands.EntryStep.EntryStep}
use Rattle.hashlink_text.specs.declared.weighted_line.WeightedLine.{WeightedLine}
use Rattle.hashlink_text.{specs.declared.cache_line.CacheLine.CacheLine, specs.declared.line.Line.Line}
use Rattle.hashlink_text.specs.declared.modes.Mode.{Mode}

-- a word of a line: a name, or a number
pub data Word : Type 0 where
  Name : List ℕ → Word
  Number : ℕ → Word

-- a number is written as it is printed
abbrev pub word_shown : Word → List ℕ
word_shown (Name name) = name
word_shown (Number n) = decimal n

-- it can be a word of a line
abbrev pub FitsWord : Word → Type 0
FitsWord (Name name) = Unit {0}
FitsWord (Number n) = n < 2 ^ 64

-- `spell` has the words of what a line may mean, or nothing if no line means it
module _ {X : Type 0} (spell : X → Option (List Word)) where
  -- the text is the spelling of x: its words, with one space between two
  pub record Spells (x : X) (text : List ℕ) : Type 0 where
    pub words : List Word
    pub spelled : spell x ≡ Some words
    pub fit : AllByRecursion FitsWord words
    pub is : text ≡ join_with_byte 32 (map word_shown words)

  -- the meaning of the text: the one whose spelling it is, or none if it is no spelling
  pub record Says (text : List ℕ) (said : Option X) : Type 0 where
    pub one : (x : X) → (said ≡ Some x) ↔ Spells x text

-- a name and the numbers after it
abbrev pub named_words : List ℕ → List ℕ → List Word
named_words name ns = Name name ∷ map Number ns

abbrev pub named : List ℕ → List ℕ → Option (List Word)
named name ns = Some (named_words name ns)

-- ---- lines to a map

-- the meaning of a line: a command to the map, steps of a cursor, or a request for the list of all pairs
pub data Said : Type 0 where
  Do : Command ℕ ℕ → Said
  Cursor : List (CursorStep ℕ ℕ) → Said
  Iter : Said

-- the meaning of a line that was read, with the list of a cursor's steps in place of their vector
abbrev pub said : Line → Said
said (line.Do (command.Cursor steps)) = Cursor steps.items
said (line.Do command) = Do command
said line.Iter = Iter

-- the words for a step at a key's place. No words spell `ReplaceKey` or `RemoveEntry`
abbrev pub step_spelled : EntryStep ℕ → Option (List Word)
step_spelled step.Get = named (codes "get") []
step_spelled (step.OrInsert v) = named (codes "or_insert") (v ∷ [])
step_spelled (step.Insert v) = named (codes "insert") (v ∷ [])
step_spelled (step.InsertEntry v) = named (codes "insert_entry") (v ∷ [])
step_spelled (step.ReplaceEntry v) = named (codes "replace_entry") (v ∷ [])
step_spelled step.ReplaceKey = None
step_spelled step.ToFront = named (codes "to_front") []
step_spelled step.ToBack = named (codes "to_back") []
step_spelled step.Remove = named (codes "remove") []
step_spelled step.RemoveEntry = None

abbrev pub entry_steps : List ℕ → List (EntryStep ℕ)
entry_steps [] = step.Get ∷ step.ToFront ∷ step.ToBack ∷ step.Remove ∷ []
entry_steps (v ∷ []) = step.OrInsert v ∷ step.Insert v ∷ step.InsertEntry v ∷ step.ReplaceEntry v ∷ []
entry_steps (v ∷ n ∷ ns) = []

-- the words of a cursor's step
abbrev pub cursor_step_words : CursorStep ℕ ℕ → List Word
cursor_step_words cursor.Next = named_words (codes "next") []
cursor_step_words cursor.Prev = named_words (codes "prev") []
cursor_step_words cursor.Current = named_words (codes "cur") []
cursor_step_words cursor.PeekNext = named_words (codes "peek_next") []
cursor_step_words cursor.PeekPrev = named_words (codes "peek_prev") []
cursor_step_words (cursor.Before k v) = named_words (codes "before") (k ∷ v ∷ [])
cursor_step_words (cursor.After k v) = named_words (codes "after") (k ∷ v ∷ [])

abbrev pub cursor_steps : List ℕ → List (CursorStep ℕ ℕ)
cursor_steps [] = cursor.Next ∷ cursor.Prev ∷ cursor.Current ∷ cursor.PeekNext ∷ cursor.PeekPrev ∷ []
cursor_steps (k ∷ v ∷ []) = cursor.Before k v ∷ cursor.After k v ∷ []
cursor_steps ns = []

-- the words of the line that means it. No words spell `RemoveEntry`, and a cursor has a list of at least one
-- step
abbrev pub spelled : Said → Option (List Word)
spelled (Do (command.Insert k v)) = named (codes "insert") (k ∷ v ∷ [])
spelled (Do (command.InsertFront k v)) = named (codes "insert_front") (k ∷ v ∷ [])
spelled (Do (command.Replace k v)) = named (codes "replace") (k ∷ v ∷ [])
spelled (Do (command.Get k)) = named (codes "get") (k ∷ [])
spelled (Do (command.Remove k)) = named (codes "remove") (k ∷ [])
spelled (Do (command.RemoveEntry k)) = None
spelled (Do command.PopFront) = named (codes "pop_front") []
spelled (Do command.PopBack) = named (codes "pop_back") []
spelled (Do (command.ToFront k)) = named (codes "to_front") (k ∷ [])
spelled (Do (command.ToBack k)) = named (codes "to_back") (k ∷ [])
spelled (Do command.Front) = named (codes "front") []
spelled (Do command.Back) = named (codes "back") []
spelled (Do command.Len) = named (codes "len") []
spelled (Do command.Clear) = named (codes "clear") []
spelled (Do command.Shrink) = named (codes "shrink") []
spelled (Do command.Keep) = named (codes "keep") []
spelled (Do (command.Entry k s)) =
    option_map (λ words. Name (codes "entry") ∷ Number k ∷ words) (step_spelled s)
spelled (Do (command.Cursor steps)) = None
spelled (Cursor []) = None
spelled (Cursor (step ∷ steps)) = Some (Name (codes "cursor") ∷ flat_map cursor_step_words (step ∷ steps))
spelled Iter = named (codes "iter") []

abbrev pub commands : List ℕ → List Said
commands [] =
    Do command.PopFront ∷ Do command.PopBack ∷ Do command.Front ∷ Do command.Back ∷ Do command.Len
    ∷ Do command.Clear ∷ Do command.Shrink ∷ Do command.Keep ∷ Iter ∷ []
commands (k ∷ []) =
    Do (command.Get k) ∷ Do (command.Remove k) ∷ Do (command.ToFront k) ∷ Do (command.ToBack k) ∷ []
commands (k ∷ v ∷ []) = Do (command.Insert k v) ∷ Do (command.InsertFront k v) ∷ Do (command.Replace k v) ∷ []
commands (k ∷ v ∷ n ∷ ns) = []

-- ---- lines to a cache

abbrev pub cache_spelled : CacheLine → Option (List Word)
cache_spelled (cache_line.Do (cache.Insert k v)) = named (codes "insert") (k ∷ v ∷ [])
cache_spelled (cache_line.Do (cache.Use k v)) = named (codes "use") (k ∷ v ∷ [])
cache_spelled (cache_line.Do (cache.Entry k step)) = None
cache_spelled (cache_line.Do (cache.Get k)) = named (codes "get") (k ∷ [])
cache_spelled (cache_line.Do (cache.Peek k)) = named (codes "peek") (k ∷ [])
cache_spelled (cache_line.Do (cache.Remove k)) = named (codes "remove") (k ∷ [])
cache_spelled (cache_line.Do (cache.SetCapacity c)) = named (codes "set_capacity") (c ∷ [])
cache_spelled (cache_line.Do cache.Clear) = named (codes "clear") []
cache_spelled (cache_line.Do cache.RemoveLru) = named (codes "remove_lru") []
cache_spelled cache_line.Len = named (codes "len") []
cache_spelled cache_line.Iter = named (codes "iter") []

abbrev pub cache_lines : List ℕ → List CacheLine
cache_lines [] =
    cache_line.Do cache.Clear ∷ cache_line.Do cache.RemoveLru ∷ cache_line.Len ∷ cache_line.Iter ∷ []
cache_lines (n ∷ []) =
    cache_line.Do (cache.SetCapacity n) ∷ cache_line.Do (cache.Get n) ∷ cache_line.Do (cache.Peek n)
    ∷ cache_line.Do (cache.Remove n) ∷ []
cache_lines (k ∷ v ∷ []) = cache_line.Do (cache.Insert k v) ∷ cache_line.Do (cache.Use k v) ∷ []
cache_lines (k ∷ v ∷ n ∷ ns) = []

-- ---- lines to two caches

abbrev pub pair_spelled : PairCommand ℕ ℕ → Option (List Word)
pair_spelled (pair.Insert k v) = named (codes "insert") (k ∷ v ∷ [])
pair_spelled (pair.Use k v) = named (codes "use") (k ∷ v ∷ [])
pair_spelled (pair.Remove k) = named (codes "remove") (k ∷ [])
pair_spelled (pair.Peek k) = named (codes "peek") (k ∷ [])

abbrev pub pair_commands : List ℕ → List (PairCommand ℕ ℕ)
pair_commands [] = []
pair_commands (k ∷ []) = pair.Remove k ∷ pair.Peek k ∷ []
pair_commands (k ∷ v ∷ []) = pair.Insert k v ∷ pair.Use k v ∷ []
pair_commands (k ∷ v ∷ n ∷ ns) = []

-- ---- lines to a cache with a budget

abbrev pub weighted_spelled : WeightedLine → Option (List Word)
weighted_spelled (weighted_line.Do (weighted.Insert k v w)) = named (codes "insert") (k ∷ v ∷ w ∷ [])
weighted_spelled (weighted_line.Do (weighted.Get k)) = named (codes "get") (k ∷ [])
weighted_spelled (weighted_line.Do (weighted.Peek k)) = named (codes "peek") (k ∷ [])
weighted_spelled (weighted_line.Do (weighted.Remove k)) = named (codes "remove") (k ∷ [])
weighted_spelled weighted_line.Total = named (codes "total") []
weighted_spelled weighted_line.Len = named (codes "len") []
weighted_spelled weighted_line.Iter = named (codes "iter") []

abbrev pub weighted_lines : List ℕ → List WeightedLine
weighted_lines [] = weighted_line.Total ∷ weighted_line.Len ∷ weighted_line.Iter ∷ []
weighted_lines (k ∷ []) =
    weighted_line.Do (weighted.Get k) ∷ weighted_line.Do (weighted.Peek k)
    ∷ weighted_line.Do (weighted.Remove k) ∷ []
weighted_lines (k ∷ v ∷ w ∷ []) = weighted_line.Do (weighted.Insert k v w) ∷ []
weighted_lines ns = []

-- ---- the first line

-- the first of two caches is the smaller one
abbrev pub mode_spelled : Mode → Option (List Word)
mode_spelled mode.Map = named (codes "map") []
mode_spelled (mode.Cache c) = named (codes "cache") (c ∷ [])
mode_spelled (mode.Pair c d) = if nat_le c d then named (codes "pair") (c ∷ d ∷ []) else None
mode_spelled (mode.Weighted b) = named (codes "weighted") (b ∷ [])

abbrev pub modes : List ℕ → List Mode
modes [] = mode.Map ∷ []
modes (n ∷ []) = mode.Cache n ∷ mode.Weighted n ∷ []
modes (c ∷ d ∷ []) = if nat_le c d then mode.Pair c d ∷ [] else []
modes (c ∷ d ∷ n ∷ ns) = []
