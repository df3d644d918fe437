-- Both sides have as many entries left, which are equal exactly if the whole lists are.
use Rattle.std.proofs.Common.{◌≡◌, length}
use Rattle.hashlink_model.specs.Compare.{entries_eq}
use Rattle.hashlink_core.proofs.compare.iter_eq.Given as goal

abbrev pub invariant-loop-pair : goal.invariant-loop-pair
invariant-loop-pair g l = record {
  long : length l.left ≡ length l.right;
  same : entries_eq g.K.PartialEq.eq g.V.PartialEq.eq l.left l.right
      ≡ entries_eq g.K.PartialEq.eq g.V.PartialEq.eq l.initial.left l.initial.right;
}

abbrev pub decreases-loop-pair : goal.decreases-loop-pair
decreases-loop-pair g l = length l.left
