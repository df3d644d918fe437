use Rattle.misscurve.proofs.Lines.{Reads}
use Rattle.misscurve.proofs.trace.curve_of.Given as goal

abbrev pub invariant-loop-count : goal.invariant-loop-count
invariant-loop-count g l =
    Reads l.parts (g.B.Read.remaining l.fn.reader) (g.B.Read.remaining l.reader) l.curve
