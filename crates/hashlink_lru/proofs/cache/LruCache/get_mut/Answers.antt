use Rattle.std.proofs.Common.{refl, ap}
use Rattle.hashlink_lru.{specs.Cached.state_of, proofs.Ends.used_and_written}
use Rattle.hashlink_lru.proofs.cache.LruCache.get_mut.Goals as goal

pub returns : goal.returns
returns g c =
    let n = c.args.self.now.capacity in
    let test = g.Q.Equivalent.matches c.args.key in
    let old = state_of c.args.self.now in (
      (
        refl,
        λ w.
            let m = c.to_back.follows.lender w in
            let s = used_and_written test old (state_of (record c.args.self.now { map = m })) w
            (record { map = c.to_back.follows.holds w; cap = refl }) in
            (refl, s.0, s.1),
        ap (λ m. record { map = m; cap = n }) c.to_back.follows.holds-at-none,
      ),
      record {
        lends = tt;
        updates = c.to_back.ensures.updates;
        keeps = c.to_back.ensures.keeps;
        value = c.to_back.ensures.value;
        distinct = c.to_back.ensures.distinct;
      },
    )
