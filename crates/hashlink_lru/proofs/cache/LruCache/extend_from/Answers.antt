use Rattle.std.proofs.Common.{[], ◌∷◌, ◌++◌, ◌∙◌}
use Rattle.std.proofs.iter.Next as it
use Rattle.hashlink_lru.{specs.Cached.InsertsPairIn, proofs.Extending.extended_within}
use Rattle.hashlink_map.proofs.InTurn.{accepts_another, stops_after, counts_another}
use Rattle.hashlink_lru.proofs.cache.LruCache.extend_from.Goals as goal

pub returns-in-Err-clause-stopped : goal.returns-in-Err-clause-stopped
returns-in-Err-clause-stopped g c =
    let inv = c.loop-key.invariant in
    let pair : g.row.K.Denot × g.row.V.Denot = (c.in-Some.key, c.in-Some.value) in (
      inv.seen ++ pair ∷ [],
      it.Yields-more g.I.Iterator.next_gives c.args.iter.now inv.seen c.loop-key.iter pair
          c.next.new.self inv.gave c.in-Some.ensures.steps,
      stops_after (InsertsPairIn g.K.PartialEq.eq) _ _ _ _ pair _ _ inv.holds.0 inv.holds.1
          c.in-Err.ensures.inserts,
    )

pub returns-in-Err-clause-within : goal.returns-in-Err-clause-within
returns-in-Err-clause-within g c = λ n within.
    c.insert.ensures.within n (extended_within _ _ _ _ n c.loop-key.invariant.holds.0 within)

pub returns-clause-within : goal.returns-clause-within
returns-clause-within g c = λ n within. extended_within _ _ _ _ n c.loop-key.invariant.holds.0 within

pub loop-key-preserved : goal.loop-key-preserved
loop-key-preserved g c =
    let inv = c.loop-key.invariant in
    let pair : g.row.K.Denot × g.row.V.Denot = (c.in-Some.key, c.in-Some.value) in
    it.again inv pair c.in-Some.is (c.next.ensures.steps, c.next.ensures.goes) (
      accepts_another (InsertsPairIn g.K.PartialEq.eq) _ _ _ _ pair _ inv.holds.0
          c.in_default-insert.ensures.inserts,
      c.saturating_add-taken.ensures ∙ counts_another inv.seen pair c.loop-key.taken inv.holds.1,
    )
