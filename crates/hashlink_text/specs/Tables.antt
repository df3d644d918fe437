-- The words of a line as it is read, and the numbers that follow a word.
use Rattle.std.specs.{Prelude.{ℕ, List, [], ◌∷◌, map, Option, None, Some, option_and_then}, Option.option_map}
use Rattle.hashlink_text.specs.{Lines.number_of, declared.numbers.Numbers.Numbers}
use Rattle.hashlink_text.specs.declared.numbers.Numbers.TheVariants.{Nothing, One, Two, Three}

-- a word as it is written, and the number that it spells
abbrev pub Token : Type 0
Token = List ℕ × Option ℕ

abbrev pub tokens : List (List ℕ) → List Token
tokens words = map (λ word. (word, number_of word)) words

-- the numbers, if each word spells one
abbrev pub numbers_of : List Token → Option (List ℕ)
numbers_of [] = Some []
numbers_of (word ∷ words) = option_and_then (λ n. option_map (λ ns. n ∷ ns) (numbers_of words)) word.1

-- the numbers, if there are at most three
abbrev pub three_at_most : List ℕ → Option Numbers
three_at_most [] = Some Nothing
three_at_most (k ∷ []) = Some (One k)
three_at_most (k ∷ v ∷ []) = Some (Two k v)
three_at_most (k ∷ v ∷ w ∷ []) = Some (Three k v w)
three_at_most (k ∷ v ∷ w ∷ n ∷ ns) = None

-- these numbers in order
abbrev pub list_of : Numbers → List ℕ
list_of Nothing = []
list_of (One k) = k ∷ []
list_of (Two k v) = k ∷ v ∷ []
list_of (Three k v w) = k ∷ v ∷ w ∷ []
