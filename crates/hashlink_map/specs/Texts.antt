-- The texts that a query for a text finds.
use Rattle.std.specs.{Prelude.{ℕ, Bool, List}, Str.bytes_eq, String.string_bytes}
use Rattle.std.specs.declared.string.String.{String}

-- whether a text has these bytes
abbrev pub is_text : {A : Type 0} → List ℕ → String A → Bool
is_text text key = bytes_eq text (string_bytes key)
