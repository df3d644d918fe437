use Rattle.hashlink_core.proofs.Names.{[], ◌∷◌, ◌++◌, ◌∙◌, InsertsPair, state_of}
use Rattle.hashlink_core.proofs.InTurn.{accepts_another, stops_after, counts_another}
use Rattle.std.proofs.iter.Next as it
use Rattle.hashlink_map.proofs.map.LinkedHashMap.extend_from.Goals as goal

pub returns-in-Err-clause-stopped : goal.returns-in-Err-clause-stopped
returns-in-Err-clause-stopped g c =
    let inv = c.loop-key.invariant in
    let pair : g.row.K.Denot × g.row.V.Denot = (c.in-Some.key, c.in-Some.value) in (
      inv.seen ++ pair ∷ [],
      it.Yields-more g.I.Iterator.next_gives c.args.iter.now inv.seen c.loop-key.iter pair
          c.next.new.self inv.gave c.in-Some.ensures.steps,
      stops_after (InsertsPair g.K.PartialEq.eq) (state_of c.args.self.now) (state_of c.loop-key.self)
          (state_of c.insert.new.self) inv.seen pair c.in-Err.pair c.loop-key.taken inv.holds.0 inv.holds.1
          c.in-Err.ensures.inserts,
    )

pub loop-key-preserved : goal.loop-key-preserved
loop-key-preserved g c =
    let inv = c.loop-key.invariant in
    let pair : g.row.K.Denot × g.row.V.Denot = (c.in-Some.key, c.in-Some.value) in
    it.again inv pair c.in-Some.is (c.next.ensures.steps, c.next.ensures.goes) (
      accepts_another (InsertsPair g.K.PartialEq.eq) (state_of c.args.self.now) (state_of c.loop-key.self)
          (state_of c.insert.new.self) inv.seen pair c.in_default-insert.field-0 inv.holds.0
          c.in_default-insert.ensures.inserts,
      c.saturating_add-taken.ensures ∙ counts_another inv.seen pair c.loop-key.taken inv.holds.1,
    )
