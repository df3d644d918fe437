use Rattle.std.proofs.Common.{refl}
use Rattle.hashlink_lru.proofs.cache.LruCache.clone.Goals as goal

pub returns : goal.returns
returns g c =
    let e = c.in_ok-map.ensures in
    record { capacity = refl; made = e.made; refused = tt; equal = e.equal; same = e.same }
