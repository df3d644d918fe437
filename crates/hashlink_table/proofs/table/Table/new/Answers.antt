use Rattle.hashlink_table.proofs.Sound.{sound-new}
use Rattle.hashlink_table.proofs.table.Table.new.Goals as goal

pub invariant_of-result : goal.invariant_of-result
invariant_of-result g c = rw c.new.ensures sound-new
