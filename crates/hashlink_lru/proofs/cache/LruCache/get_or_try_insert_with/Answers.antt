use Rattle.std.proofs.Common.{refl}
use Rattle.hashlink_core.specs.Keyed as keyed
use Rattle.hashlink_map.proofs.Walking.{on-some}
use Rattle.hashlink_lru.{specs.Cached.state_of, proofs.Using.{lent_value, some_lent, used_and_written}}
use Rattle.hashlink_lru.proofs.Updating.{updates-used}
use Rattle.hashlink_lru.proofs.cache.LruCache.get_or_try_insert_with.Goals as goal

pub unwrap-requires : goal.unwrap-requires
unwrap-requires g c =
    some_lent g.K.PartialEq.eq _ (state_of c.args.self.now).map (keyed.state_of c.move_or_try_make.new.map)
    c.args.key c.in_ok-move_or_try_make.ensures.puts c.lend_last.result c.lend_last.ensures.value

pub returns : goal.returns
returns g c =
    let eq = g.K.PartialEq.eq in let old = state_of c.args.self.now in
    let new = keyed.state_of c.move_or_try_make.new.map in
    let made = c.in_ok-move_or_try_make.ensures.puts in
    let v = c.unwrap.result.now in
    let l = c.lend_last.follows in (
      (
        refl,
        λ w ok. used_and_written eq g.met.K.Eq.laws _ old new c.args.key _ c.len-before.ensures.len
            c.len-before.ensures.distinct made w (state_of (l.lender w))
            (on-some c.unwrap.ensures (l.holds w)),
        tt,
      ),
      record {
        lends = tt;
        updates = updates-used eq g.met.K.Eq.laws old c.args.key c.len-before.ensures.distinct;
        value = lent_value eq _ old.map new c.args.key made v
            (rw c.unwrap.ensures at c.lend_last.ensures.value);
        handed_back = tt;
      },
    )
