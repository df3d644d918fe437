-- The entries left compare as the whole lists do.
use Rattle.std.proofs.Common.{◌≡◌, length}
use Rattle.hashlink_model.specs.Compare.{entries_cmp}
use Rattle.hashlink_core.proofs.compare.iter_cmp.Given as goal

abbrev pub invariant-loop-pair : goal.invariant-loop-pair
invariant-loop-pair g l =
    entries_cmp g.K.Ord.cmp g.V.Ord.cmp l.left l.right
    ≡ entries_cmp g.K.Ord.cmp g.V.Ord.cmp l.initial.left l.initial.right

abbrev pub decreases-loop-pair : goal.decreases-loop-pair
decreases-loop-pair g l = length l.left
