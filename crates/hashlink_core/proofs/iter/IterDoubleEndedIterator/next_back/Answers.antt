use Rattle.std.{proofs.Common.{sym, ◌∙◌}, specs.Map.Iter.deref_pair}
use Rattle.hashlink_core.proofs.Walk.{last-holds, stands-prev, gives-last, progress-back}
use Rattle.hashlink_core.proofs.iter.IterDoubleEndedIterator.next_back.Goals as goal

pub before-self-inside-requires : goal.before-self-inside-requires
before-self-inside-requires g c = last-holds c.self.invariant c.if-self-eq0.false

pub entry-requires : goal.entry-requires
entry-requires g c = last-holds c.self.invariant c.if-self-eq0.false

pub invariant_of-self : goal.invariant_of-self
invariant_of-self g c = stands-prev c.self.invariant c.if-self-eq0.false _ c.before-self-inside.ensures.apart
    c.before-self-inside.result c.before-self-inside.ensures.prev

pub returns-clause-steps : goal.returns-clause-steps
returns-clause-steps g c =
    sym c.self.view_is ∙ gives-last c.self.invariant c.if-self-eq0.false _ c.entry.ensures

pub returns-clause-goes : goal.returns-clause-goes
returns-clause-goes g c = progress-back deref_pair c.entry.result (returns-clause-steps g c)
