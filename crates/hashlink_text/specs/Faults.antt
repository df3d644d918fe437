-- The message of a fault.
use Rattle.std.specs.Prelude.{ℕ, List, codes}
use Rattle.hashlink_text.specs.declared.faults.{Fault.Fault, Fault.TheVariants.{Reading, Memory, Writing}}

abbrev pub fault_shown : Fault → List ℕ
fault_shown Reading = codes "linkrun: reading failed"
fault_shown Memory = codes "linkrun: no memory"
fault_shown Writing = codes "linkrun: writing failed"
