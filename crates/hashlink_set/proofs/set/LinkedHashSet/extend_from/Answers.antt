use Rattle.hashlink_set.proofs.Names.{[], ◌∷◌, ◌++◌, ◌∙◌, SetInserts, accepts_another}
use Rattle.hashlink_map.proofs.InTurn.{stops_after, counts_another}
use Rattle.std.proofs.iter.Next as it
use Rattle.hashlink_set.proofs.set.LinkedHashSet.extend_from.Goals as goal

pub returns-in-Err-clause-stopped : goal.returns-in-Err-clause-stopped
returns-in-Err-clause-stopped g c =
    let inv = c.loop-element.invariant in
    let x = c.in-Some.element in (
      inv.seen ++ x ∷ [],
      it.Yields-more g.I.Iterator.next_gives c.args.iter.now inv.seen c.loop-element.iter x
          c.next.new.self inv.gave c.in-Some.ensures.steps,
      stops_after (SetInserts g.T.PartialEq.eq) c.args.self.now c.loop-element.self
          c.insert.new.self inv.seen x
          c.in-Err.back c.loop-element.taken inv.holds.0 inv.holds.1 c.in-Err.ensures.inserts,
    )

pub loop-element-preserved : goal.loop-element-preserved
loop-element-preserved g c =
    let inv = c.loop-element.invariant in let x = c.in-Some.element in
    it.again inv x c.in-Some.is (c.next.ensures.steps, c.next.ensures.goes) (
      accepts_another (SetInserts g.T.PartialEq.eq) c.args.self.now c.loop-element.self
          c.insert.new.self inv.seen x
          c.in_default-insert.field-0 inv.holds.0 c.in_default-insert.ensures.inserts,
      c.saturating_add-taken.ensures ∙ counts_another inv.seen x c.loop-element.taken inv.holds.1,
    )
