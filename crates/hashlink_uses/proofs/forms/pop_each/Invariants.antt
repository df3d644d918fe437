use Rattle.hashlink_uses.proofs.Common.{length, entries_of}
use Rattle.hashlink_uses.proofs.forms.pop_each.Given as goal

-- each turn removes an entry
abbrev pub decreases-loop-pair : goal.decreases-loop-pair
decreases-loop-pair g l = length (entries_of l.map)
