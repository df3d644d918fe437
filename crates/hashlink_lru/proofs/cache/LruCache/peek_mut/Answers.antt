use Rattle.std.proofs.Common.{refl, ap}
use Rattle.hashlink_lru.{specs.Cached.state_of, proofs.Ends.written}
use Rattle.hashlink_lru.proofs.cache.LruCache.peek_mut.Goals as goal

pub returns : goal.returns
returns g c =
    let n = c.args.self.now.capacity in
    let test = g.Q.Equivalent.matches c.args.key in
    let old = state_of c.args.self.now in (
      (
        refl,
        λ w.
            let m = c.get_mut.follows.lender w in
            let s = written test old (state_of (record c.args.self.now { map = m })) w
            (ap (λ m'. record { map = m'; cap = n }) (c.get_mut.follows.holds w)) in
            (refl, s.0, s.1),
        ap (λ m. record { map = m; cap = n }) c.get_mut.follows.holds-at-none,
      ),
      record {
        lends = tt;
        updates = c.get_mut.ensures.updates;
        value = c.get_mut.ensures.value;
        distinct = c.get_mut.ensures.distinct;
      },
    )
