use Rattle.std.proofs.Common.{◌≡◌, ◌-◌, ◌+◌, length, drop, subst, arith}
use Rattle.hashlink_model.specs.Steps.{KeepsOnly}
use Rattle.hashlink_core.specs.Keyed.{state_of, entries_of}
use Rattle.hashlink_lru.proofs.{Dropping.drops_more, Updating.evicts-some}
use Rattle.hashlink_lru.proofs.cache.LruCache.keep_last.Goals as goal

pub loop-preserved : goal.loop-preserved
loop-preserved g c =
    let old = c.args.self.now.map in let new = c.pop_front.new.self in
    let i = c.loop.invariant in let end = i.2 in
    let next : c.loop.counter - c.args.count + 1 ≡ c.loop.counter + 1 - c.args.count = omega arith in (
      subst (λ n. KeepsOnly (state_of old) (state_of new) (drop n (entries_of old))) next
          (drops_more _ _ _ (c.loop.counter - c.args.count) _ i.0 c.pop_front.ensures.pops),
      c.pop_front.ensures.distinct,
      end,
      omega arith,
      omega arith,
      i.5,
    )

pub returns-clause-keeps : goal.returns-clause-keeps
returns-clause-keeps g c =
    let old = c.args.self.now.map in let new = c.loop.self.map in
    let i = c.loop.invariant in
    let all : c.loop.counter - c.args.count ≡ length (entries_of old) - c.args.count = omega arith in
    record {
      map = subst (λ n. KeepsOnly (state_of old) (state_of new) (drop n (entries_of old))) all i.0;
      cap = i.5;
    }

pub returns-clause-updates : goal.returns-clause-updates
returns-clause-updates g c =
    evicts-some g.K.PartialEq.eq g.met.K.Eq.laws (c.loop.counter - c.args.count)
    (entries_of c.args.self.now.map) (entries_of c.loop.self.map) c.len-end.ensures.distinct
    c.loop.invariant.0.entries
