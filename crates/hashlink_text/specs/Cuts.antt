-- The values behind references: the parts of a text that is read from its front, and a table of words.
use Rattle.std.specs.{Prelude.{ℕ, List, [], Option, None, Some, map}, Borrow.Bor}
use Rattle.hashlink_text.specs.Lines.{parts_of}

-- the parts that are left; none after the last
abbrev pub parts_left : ℕ → Option (Bor (List ℕ)) → List (List ℕ)
parts_left byte None = []
parts_left byte (Some rest) = parts_of byte rest.now

-- the table with each word itself in place of a reference to it
abbrev pub words_shown : {X : Type 0} → List (Bor (List ℕ) × X) → List (List ℕ × X)
words_shown table = map (λ entry. (entry.0.now, entry.1)) table
