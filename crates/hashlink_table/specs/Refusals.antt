-- The text of an error of `reserve`.
use Rattle.std.specs.Prelude.{ℕ, List, codes}
use Rattle.hashlink_table.specs.declared.error.TryReserveError.{TryReserveError}
use Rattle.hashlink_table.specs.declared.error.TryReserveError.TheVariants.{CapacityOverflow, AllocError}

abbrev pub refusal_shown : TryReserveError → List ℕ
refusal_shown CapacityOverflow = codes "no table can have so much room"
refusal_shown AllocError = codes "memory allocation failed"
