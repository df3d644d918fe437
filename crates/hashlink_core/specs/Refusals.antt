-- The text of the error of an `extend`.
use Rattle.std.specs.Prelude.{ℕ, List, ◌++◌, codes, decimal}
use Rattle.hashlink_core.specs.declared.extend_error.ExtendError.{ExtendError}

abbrev pub extend_shown : {K V : Type 0} → ExtendError K V → List ℕ
extend_shown e = codes "memory ran out after " ++ decimal e.taken ++ codes " items"
