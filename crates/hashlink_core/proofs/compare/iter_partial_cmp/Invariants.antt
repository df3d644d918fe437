-- The entries left compare as the whole lists do.
use Rattle.std.proofs.Common.{◌≡◌, length}
use Rattle.hashlink_model.specs.Compare.{entries_partial_cmp}
use Rattle.hashlink_core.proofs.compare.iter_partial_cmp.Given as goal

abbrev pub invariant-loop-pair : goal.invariant-loop-pair
invariant-loop-pair g l =
    entries_partial_cmp g.K.PartialOrd.partial_cmp g.V.PartialOrd.partial_cmp l.left l.right
    ≡ entries_partial_cmp g.K.PartialOrd.partial_cmp g.V.PartialOrd.partial_cmp l.initial.left l.initial.right

abbrev pub decreases-loop-pair : goal.decreases-loop-pair
decreases-loop-pair g l = length l.left
