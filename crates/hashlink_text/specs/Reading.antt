-- How a line is read: its first word chooses among all meanings with as many numbers. Only the functions that
-- readers of lines call use them; the meaning of a line is defined in `Spelling`.
use Rattle.std.specs.Prelude.{◌≡◌, ℕ, zero, suc, Bool, true, not, ◌&&◌, ◌||◌, nat_eq, List, [], ◌∷◌, take}
use Rattle.std.specs.Prelude.{map, Option, None, Some, option_and_then, is_none, if◌then◌else◌, codes}
use Rattle.std.specs.{Prelude.decimal, Map.lookup, Option.{option_map, option_map_or}, Str.bytes_eq}
use Rattle.std.specs.List.{list_all}
use Rattle.hashlink_run.specs.declared.commands.{Command.TheVariants.Entry, CursorStep.CursorStep}
use Rattle.hashlink_text.specs.Spelling.{Word, Name, Number, Said, Do, Cursor, spelled, commands}
use Rattle.hashlink_text.specs.Spelling.{step_spelled, entry_steps, cursor_step_words, cursor_steps}
use Rattle.hashlink_text.specs.{Lines.number_of, Tables.{Token, numbers_of}}

-- the name with which the words begin
abbrev pub first_name : Option (List Word) → List ℕ
first_name None = []
first_name (Some []) = []
first_name (Some (Name name ∷ words)) = name
first_name (Some (Number n ∷ words)) = []

-- `among` lists the possible meanings for some numbers
module _ {X : Type 0} (spell : X → Option (List Word)) (among : List ℕ → List X) where
  -- each of them by its name
  abbrev pub by_name : List ℕ → List (List ℕ × X)
  by_name ns = map (λ x. (first_name (spell x), x)) (among ns)

  -- the meaning of this name and the words after it, which spell numbers
  abbrev pub read_in : List ℕ → List Token → Option X
  read_in name words = option_and_then (λ ns. lookup (bytes_eq name) (by_name ns)) (numbers_of words)

  -- the meaning of the words
  abbrev pub read_words : List Token → Option X
  read_words [] = None
  read_words (name ∷ words) = read_in name.0 words

-- ---- what is named as it is spelled

-- the word whose spelling this is
abbrev pub word_of : List ℕ → Word
word_of written = option_map_or Number (number_of written) (Name written)

-- what is read from a written word
abbrev pub token_of : Word → Token
token_of (Name name) = (name, None)
token_of (Number n) = (decimal n, Some n)

abbrev pub has_no_space : List ℕ → Bool
has_no_space name = list_all (λ b. not (nat_eq b 32)) name

-- each name is a single word, and no number
abbrev pub are_names : List Word → Bool
are_names [] = true
are_names (Name name ∷ words) = has_no_space name && (is_none (number_of name) && are_names words)
are_names (Number n ∷ words) = are_names words

module _ {X : Type 0} (read : List Token → Option X) where
  -- if x has words, x is read from them. This is stated in two equations even if there are none, so that one
  -- proof serves for each
  abbrev pub IsRead : Option (List Word) → X → Type 0
  IsRead None x = (true ≡ true) × (Some x ≡ Some x)
  IsRead (Some words) x = (are_names words ≡ true) × (read (map token_of words) ≡ Some x)

module _ {X : Type 0} (spell : X → Option (List Word)) where
  -- the spelling of each is its name and the numbers
  abbrev pub AllNamed : List ℕ → List X → Type 0
  AllNamed ns xs = map spell xs ≡ map (λ x. Some (word_of (first_name (spell x)) ∷ map Number ns)) xs

  module _ (among : List ℕ → List X) where
    abbrev pub EachNamed : Type 0
    EachNamed = (ns : List ℕ) → AllNamed ns (among ns)

    abbrev pub EachFound : Type 0
    EachFound = (x : X) → IsRead (read_words spell among) (spell x) x

    -- `among` has only what is spelled as its name and the numbers, and all of it
    pub record IsNamed : Type 0 where
      pub named : EachNamed
      pub found : EachFound

-- ---- lines to a map, with the steps of an entry and of a cursor

-- a key, a name and the numbers after it
abbrev pub entry_read : List Token → Option Said
entry_read [] = None
entry_read (key ∷ words) =
    option_and_then (λ k. option_map (λ s. Do (Entry k s)) (read_words step_spelled entry_steps words))
    key.1

abbrev pub cursor_step_spelled : CursorStep ℕ ℕ → Option (List Word)
cursor_step_spelled step = Some (cursor_step_words step)

-- how many numbers follow the name of a step
abbrev pub numbers_after : List ℕ → ℕ
numbers_after name = if bytes_eq name (codes "before") || bytes_eq name (codes "after") then 2 else 0

-- the steps that the words after the first n mean, each by its name and the numbers after it
abbrev pub steps_after : ℕ → List Token → Option (List (CursorStep ℕ ℕ))
steps_after n [] = Some []
steps_after (suc n) (word ∷ words) = steps_after n words
steps_after zero (name ∷ words) =
    option_and_then (λ step. option_map (λ steps. step ∷ steps) (steps_after (numbers_after name.0) words))
    (read_in cursor_step_spelled cursor_steps name.0 (take (numbers_after name.0) words))

-- one step or more
abbrev pub some_steps : List (CursorStep ℕ ℕ) → Option Said
some_steps [] = None
some_steps (step ∷ steps) = Some (Cursor (step ∷ steps))

abbrev pub cursor_read : List Token → Option Said
cursor_read words = option_and_then some_steps (steps_after 0 words)

abbrev pub line_read : List Token → Option Said
line_read [] = None
line_read (name ∷ words) =
    if bytes_eq name.0 (codes "entry") then entry_read words
    else if bytes_eq name.0 (codes "cursor") then cursor_read words
    else read_in spelled commands name.0 words
