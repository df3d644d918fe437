use Rattle.std.{proofs.Common.{Result, Ok, Err}, specs.Prelude.{IfOk, MatchResult}}
use Rattle.hashlink_map.proofs.Clones.{clone_by_answer}
use Rattle.hashlink_lru.specs.Cached.{entries_of, state_of}
use Rattle.hashlink_lru.proofs.cache.extend.LruCacheClone.clone.Goals as goal

both_of : {M E : Type 0} (P Q : M → Type 0) (N : E → Type 0) (r : Result M E) → IfOk r P → MatchResult r Q N
    → MatchResult r (λ m. P m × Q m) N
both_of P Q N (Ok m) p q = (p, q)
both_of P Q N (Err e) p n = n

pub returns : goal.returns
returns g c =
    let old = (state_of c.args.self.now).map in record {
      cases = both_of _ _ _ c.clone.result c.clone.ensures.capacity
          (clone_by_answer g.K.Clone.is_clone g.V.Clone.is_clone g.K.PartialEq.eq
          (g.S.Clone.is_clone old.hasher) (g.S.Clone.is_infallible old.hasher) (entries_of c.args.self.now)
          (λ m. (state_of m).map) c.clone.result c.clone.ensures.made c.clone.ensures.refused
          c.clone.ensures.equal c.clone.ensures.same);
    }
