use Rattle.std.proofs.Common.{ap, arith, length, sym, ◌∙◌}
use Rattle.hashlink_core.proofs.Walk.{first-holds, stands-next, gives-first, progress}
use Rattle.hashlink_core.proofs.iter.IterIterator.next.Goals as goal

pub after-self-inside-requires : goal.after-self-inside-requires
after-self-inside-requires g c = first-holds c.self.invariant c.if-self-eq0.false

pub entry-requires : goal.entry-requires
entry-requires g c = first-holds c.self.invariant c.if-self-eq0.false

pub invariant_of-self : goal.invariant_of-self
invariant_of-self g c = stands-next c.self.invariant c.if-self-eq0.false _ c.after-self-inside.ensures.apart
    c.after-self-inside.result c.after-self-inside.ensures.next

pub returns-clause-steps : goal.returns-clause-steps
returns-clause-steps g c =
    sym c.self.view_is ∙ gives-first c.self.invariant c.if-self-eq0.false _ c.after-self-inside.ensures.apart
    c.after-self-inside.result c.after-self-inside.ensures.next _ c.entry.ensures

pub returns-clause-goes : goal.returns-clause-goes
returns-clause-goes g c = progress c.entry.result (omega (arith, ap length (returns-clause-steps g c)))
