-- The elements left are as many on both sides, and they are equal exactly if the whole lists are.
use Rattle.hashlink_set.proofs.Names.{◌≡◌, length, elements_eq}
use Rattle.hashlink_set.proofs.compared.LinkedHashSetPartialEq.eq.Given as goal

abbrev pub invariant-loop-element : goal.invariant-loop-element
invariant-loop-element g l = record {
  long : length l.left ≡ length l.right;
  same : elements_eq g.T.PartialEq.eq l.left l.right
      ≡ elements_eq g.T.PartialEq.eq l.initial.left l.initial.right;
}

abbrev pub decreases-loop-element : goal.decreases-loop-element
decreases-loop-element g l = length l.left
