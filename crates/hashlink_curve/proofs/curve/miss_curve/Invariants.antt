use Rattle.hashlink_curve.proofs.Names.{take, Counted}
use Rattle.hashlink_curve.proofs.curve.miss_curve.Given as goal

abbrev pub invariant-loop-key : goal.invariant-loop-key
invariant-loop-key g l = Counted g.K.PartialEq.eq (take l.key-index l.keys) l.curve
