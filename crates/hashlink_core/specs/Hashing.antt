-- The values of the default hashers: those of std's `FoldHasher`, from its own start.
use Rattle.std.specs.Prelude.{ℕ, List}
use Rattle.std.specs.Hash.FoldHasher as folding
use Rattle.hashlink_core.specs.declared.hasher.DefaultHasher.{DefaultHasher}
use Rattle.hashlink_core.specs.declared.hash_builder.DefaultHashBuilder.{DefaultHashBuilder}

-- the hasher for each new key
abbrev pub initial : DefaultHasher
initial = record { fold = folding.initial }

-- the state after the bytes were written
abbrev pub write : DefaultHasher → List ℕ → DefaultHasher
write h bytes = record { fold = folding.write h.fold bytes }

abbrev pub finish : DefaultHasher → ℕ
finish h = folding.finish h.fold

-- the builder that has no state
abbrev pub default_builder : DefaultHashBuilder
default_builder = record {}
