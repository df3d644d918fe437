use Rattle.hashlink_set.proofs.Names.{◌≡◌, length, not, eqb, first_passing, elements_in, sifts}
use Rattle.hashlink_set.proofs.sifted.SiftedIterator.next.Given as goal

-- no element looked at so far passes
abbrev pub invariant-loop-element : goal.invariant-loop-element
invariant-loop-element g l =
    let test = sifts g.T.PartialEq.eq (not (eqb g.row.HAS 0)) (elements_in l.initial.self.other.now) in
    (first_passing test l.initial.self.iter ≡ first_passing test l.self.iter)
    × (l.self.other.now ≡ l.initial.self.other.now)

abbrev pub decreases-loop-element : goal.decreases-loop-element
decreases-loop-element g l = length l.self.iter
