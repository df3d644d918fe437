use Rattle.hashlink.proofs.Joined.{exchanged, lookup-stored}
use Rattle.hashlink_uses.proofs.Common.{sym, ◌∙◌}
use Rattle.hashlink_uses.proofs.segments.SegmentedCache.get.Goals as goal

pub protect-answer-requires-clause-absent : goal.protect-answer-requires-clause-absent
protect-answer-requires-clause-absent g c =
    sym (lookup-stored g.met.K.Eq.laws _ _ _ _ c.in-Some-remove_entry.ensures.removes.map.answer)
    ∙ c.touch.ensures.lookups c.args.key.now ∙ sym c.in_default.ensures.value

pub demote-requires-clause-absent : goal.demote-requires-clause-absent
demote-requires-clause-absent g c =
    (exchanged g.met.K.Eq.laws _ _ _ _ _ _ _ _ c.in-Some-remove_entry.ensures.removes.map.answer
    c.remove_entry.ensures.updates.0 c.touch.ensures.lookups c.args.self.now.apart
    c.protect-answer.ensures.parts).absent

pub invariant_of-self-2-clause-apart : goal.invariant_of-self-2-clause-apart
invariant_of-self-2-clause-apart g c =
    rw c.demote.ensures.entries (exchanged g.met.K.Eq.laws _ _ _ _ _ _ _ _
    c.in-Some-remove_entry.ensures.removes.map.answer c.remove_entry.ensures.updates.0 c.touch.ensures.lookups
    c.args.self.now.apart c.protect-answer.ensures.parts).apart

pub returns-clause-kept : goal.returns-clause-kept
returns-clause-kept g c q =
    rw c.demote.ensures.entries ((exchanged g.met.K.Eq.laws _ _ _ _ _ _ _ _
    c.in-Some-remove_entry.ensures.removes.map.answer c.remove_entry.ensures.updates.0 c.touch.ensures.lookups
    c.args.self.now.apart c.protect-answer.ensures.parts).finds q)
