-- What the tests know of a table.
use Rattle.std.specs.Prelude.{◌≡◌, ℕ}
use Rattle.hashlink_table.specs.Contents.{Contents, Keeps}

-- each node determines the hash under which the table keeps it
abbrev pub Tells : {N : Type 0} → (N → ℕ) → Contents N → Type 0
Tells {N} told t = (hash : ℕ) (node : N) → Keeps t hash node → hash ≡ told node
