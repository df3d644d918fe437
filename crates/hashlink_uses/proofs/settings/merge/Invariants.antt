use Rattle.hashlink.proofs.CallerLemmas.{StepsSoFar}
use Rattle.hashlink_uses.proofs.Common.{entries_of}
use Rattle.hashlink_uses.specs.Merged.{with_setting}
use Rattle.hashlink_uses.proofs.settings.merge.Given as goal

-- the settings returned so far were set in order
abbrev pub invariant-loop-key : goal.invariant-loop-key
invariant-loop-key g l =
    (goal.iterator-loop-key g).can_next l.key-iterator × (goal.iterator-loop-key g).is_finite l.key-iterator
    × StepsSoFar (with_setting g.K.PartialEq.eq) (entries_of l.fn.settings) (entries_of l.fn.others)
    l.key-iterator (entries_of l.settings)
