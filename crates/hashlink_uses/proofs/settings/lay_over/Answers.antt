use Rattle.std.specs.String.{string_eq}
use Rattle.hashlink.proofs.CallerLemmas.{StepsSoFar-end, StepsSoFar-next, StepsSoFar-start, combined-added}
use Rattle.hashlink.proofs.CallerLemmas.{combined-not_added, combined-stopped, combined-written}
use Rattle.hashlink_uses.proofs.Common.{[], ◌∷◌, ◌++◌, ◌∙◌, ap, entries_of, lookup, refl, sym}
use Rattle.hashlink_uses.specs.Sections.{laid_on, settings_in, with_section}
use Rattle.hashlink_uses.proofs.settings.lay_over.Goals as goal

pub loop-name-init : goal.loop-name-init
loop-name-init c =
    let gives = ap settings_in c.into_iter-name-iterator.ensures.into_iter_gives in
    (tt, tt, StepsSoFar-start (with_section string_eq string_eq) _ _ _ gives)

pub loop-name-preserved-in-Some-get_mut : goal.loop-name-preserved-in-Some-get_mut
loop-name-preserved-in-Some-get_mut c =
    let written = ap (λ m. settings_in m.entries) (c.get_mut.follows.holds c.merge.new.settings)
    ∙ combined-written entries_of string_eq (laid_on string_eq) _ c.in-Some.name
    (entries_of c.in-Some.settings) _ _ c.in-Some-get_mut.ensures.value c.in-Ok.ensures.all in
    let next = ap settings_in c.in-Some.ensures.steps in (
      tt,
      tt,
      StepsSoFar-next (with_section string_eq string_eq) _ _ _ _ _ _ _ c.loop-name.invariant.2 next
          written,
    )

pub loop-name-preserved-in-Ok-insert-2 : goal.loop-name-preserved-in-Ok-insert-2
loop-name-preserved-in-Ok-insert-2 c =
    let same = ap (λ m. m.entries) c.get_mut.follows.holds-at-none in
    let absent = ap (lookup (string_eq c.in-Some.name)) same ∙ sym c.in-None-get_mut.ensures.value in
    let added = ap settings_in (c.in-Ok-insert.ensures.added absent
    ∙ ap (λ es. es ++ (c.in-Some.name, c.in-Some.settings) ∷ []) same)
    ∙ combined-added entries_of string_eq (laid_on string_eq) _ c.in-Some.name (entries_of c.in-Some.settings)
    _ c.in-None-get_mut.ensures.value refl in
    let next = ap settings_in c.in-Some.ensures.steps in (
      tt,
      tt,
      StepsSoFar-next (with_section string_eq string_eq) _ _ _ _ _ _ _ c.loop-name.invariant.2 next
          added,
    )

pub returns-clause-all : goal.returns-clause-all
returns-clause-all c =
    StepsSoFar-end (with_section string_eq string_eq) _ _ _ _ c.loop-name.invariant.2
    (ap settings_in c.in-None.ensures.steps.0)

pub returns-in_default-clause-stopped : goal.returns-in_default-clause-stopped
returns-in_default-clause-stopped c =
    let (gone, is, so_far) = c.loop-name.invariant.2 in
    let (set, left, split, merges) = c.in_default.ensures.stopped in
    let rest = settings_in c.next.new.self in
    let others = is ∙ ap (λ es. gone ++ settings_in es) c.in-Some.ensures.steps
    ∙ ap (λ es. gone ++ (c.in-Some.name, es) ∷ rest) split in
    let new = ap (λ m. settings_in m.entries) (c.get_mut.follows.holds c.merge.new.settings)
    ∙ combined-stopped entries_of string_eq (laid_on string_eq) _ c.in-Some.name set _ gone _
    c.merge.new.settings c.in-Some-get_mut.ensures.value merges so_far in
    (gone, rest, c.in-Some.name, set, c.in_default.field-0 ∷ left, others, new)

pub returns-in_default-insert-clause-stopped : goal.returns-in_default-insert-clause-stopped
returns-in_default-insert-clause-stopped c =
    let (gone, is, so_far) = c.loop-name.invariant.2 in
    let others = is ∙ ap (λ es. gone ++ settings_in es) c.in-Some.ensures.steps in
    let same = c.in_default-insert.ensures.inserts.grows.entries
    ∙ ap (λ m. m.entries) c.get_mut.follows.holds-at-none in
    let new = ap settings_in same ∙ combined-not_added entries_of string_eq (laid_on string_eq) _
    c.in-Some.name [] _ gone c.in-None-get_mut.ensures.value so_far in
    (gone, settings_in c.next.new.self, c.in-Some.name, [], entries_of c.in-Some.settings, others, new)
