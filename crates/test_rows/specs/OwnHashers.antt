-- What the hashers of the rows compute from the default hash.
use Rattle.std.specs.Prelude.{ℕ, ◌%◌}
use Rattle.test_rows.specs.declared.hashers.Hashing.{Hashing}
use Rattle.test_rows.specs.declared.hashers.Hashing.TheVariants as hashing

abbrev pub hash_of : Hashing → ℕ → ℕ
hash_of hashing.Default hash = hash
hash_of hashing.Same hash = 0
hash_of hashing.Two hash = hash % 2
