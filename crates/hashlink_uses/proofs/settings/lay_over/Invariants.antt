use Rattle.std.specs.String.{string_eq}
use Rattle.hashlink.proofs.CallerLemmas.{StepsSoFar}
use Rattle.hashlink_uses.proofs.Common.{entries_of}
use Rattle.hashlink_uses.specs.Sections.{settings_in, with_section}
use Rattle.hashlink_uses.proofs.settings.lay_over.Given as goal

-- the sections returned so far were laid over in order
abbrev pub invariant-loop-name : goal.invariant-loop-name
invariant-loop-name l =
    goal.iterator-loop-name.can_next l.name-iterator × goal.iterator-loop-name.is_finite l.name-iterator
    × StepsSoFar (with_section string_eq string_eq) (settings_in (entries_of l.fn.sections))
    (settings_in (entries_of l.fn.others)) (settings_in l.name-iterator) (settings_in (entries_of l.sections))
