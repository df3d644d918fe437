use Rattle.std.proofs.Common.{refl}
use Rattle.hashlink_model.specs.{Cache.OnMap, MapState.Grows}
use Rattle.hashlink_map.proofs.Extending.{grows-none, extended, cuts_item}
use Rattle.hashlink_lru.specs.Cached.{state_of, InsertsPairIn}
use Rattle.hashlink_lru.proofs.cache.extend.LruCacheExtendTuple2.extend.Goals as goal

pub returns : goal.returns
returns g c =
    let nexts = g.I.IntoIter.Iterator.next_gives in let new = state_of c.extend.new.self in
    let e = extended nexts (λ raw. raw) g.I.IntoIterator.into_iter_gives (InsertsPairIn g.K.PartialEq.eq)
    (OnMap (Grows 1)) c.args.iter (state_of c.args.self.now) new c.extend.result c.map_err.result
    c.map_err.ensures.variant (λ e. e.taken) (λ e. e.pair)
    (record { map = grows-none new.map; cap = refl }) (cuts_item nexts)
    (λ a b x y refused. record { map = refused.map.grows; cap = refused.cap }) c.extend.ensures.all
    c.extend.ensures.stopped in
    record { ran = e.ran; all = e.all; stopped = e.stopped; within = c.extend.ensures.within }
