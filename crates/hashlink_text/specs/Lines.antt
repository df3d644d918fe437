-- The parts of a text: lines, the words of a line, and numbers.
use Rattle.std.specs.Prelude.{ℕ, ◌^◌, Bool, true, false, ◌&&◌, not, List, [], ◌∷◌, Option, None, Some, nat_lt}
use Rattle.std.specs.{Prelude.{◌==◌, if◌then◌else◌}, List.slice_split, Str.all_ascii_digits}
use Rattle.std.specs.Str.Parse.{digits_value}

-- the parts that a byte separates
abbrev pub parts_of : ℕ → List ℕ → List (List ℕ)
parts_of byte text = slice_split (λ b. b == byte) text

-- the parts without the last one if that is empty
abbrev pub without_empty_end : List (List ℕ) → List (List ℕ)
without_empty_end [] = []
without_empty_end ([] ∷ []) = []
without_empty_end (part ∷ parts) = part ∷ without_empty_end parts

-- the lines of a text: each ends at a byte 10, and the end of the text ends the last one if it isn't empty
abbrev pub lines_of : List ℕ → List (List ℕ)
lines_of text = without_empty_end (parts_of 10 text)

-- the words of a line: a single space separates two, so two spaces in a row have an empty word between them
abbrev pub words_of : List ℕ → List (List ℕ)
words_of line = parts_of 32 line

-- at least one byte, and a zero first only if nothing follows it
abbrev pub begins_as_number : List ℕ → Bool
begins_as_number [] = false
begins_as_number (digit ∷ []) = true
begins_as_number (digit ∷ digits) = not (digit == 48)

-- the value of decimal digits, if it is below 2 ^ 64
abbrev pub value_of : List ℕ → Option ℕ
value_of digits =
    if all_ascii_digits digits && nat_lt (digits_value 10 digits) (2 ^ 64) then Some
    (digits_value 10 digits) else None

-- the number that a word spells
abbrev pub number_of : List ℕ → Option ℕ
number_of word = if begins_as_number word then value_of word else None
