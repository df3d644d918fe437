use Rattle.std.{proofs.Common.{◌≡◌, take}, specs.Prelude.fold}
use Rattle.misscurve.specs.Trace.{multiplied}
use Rattle.misscurve.proofs.trace.mixed.Given as goal

abbrev pub invariant-loop-byte : goal.invariant-loop-byte
invariant-loop-byte l = l.sum ≡ fold multiplied 0xcbf2_9ce4_8422_2325 (take l.byte-index l.key)
