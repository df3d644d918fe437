use Rattle.std.proofs.Common.{refl}
use Rattle.hashlink_core.specs.Keyed as keyed
use Rattle.hashlink_map.proofs.Walking.{on-some}
use Rattle.hashlink_lru.{specs.Cached.state_of, proofs.Updating.updates-used}
use Rattle.hashlink_lru.proofs.Using.{moved_or_made, lent_value, some_lent, used_and_written}
use Rattle.hashlink_lru.proofs.cache.LruCache.get_or_insert_with.Goals as goal

pub unwrap-requires : goal.unwrap-requires
unwrap-requires g c =
    let old = (state_of c.args.self.now).map in let i = c.in_ok-get_or_insert_with in
    let f = c.get_or_insert_with.follows in
    let new = keyed.state_of (f.lender i.field-0.now) in
    some_lent g.K.PartialEq.eq _ old new c.args.key (moved_or_made g.K.PartialEq.eq _ old new c.args.key
    c.get_or_insert_with.result i.field-0 i.was i.ensures.value (f.holds i.field-0.now))
    c.lend_last.result c.lend_last.ensures.value

pub returns : goal.returns
returns g c =
    let eq = g.K.PartialEq.eq in let old = state_of c.args.self.now in
    let i = c.in_ok-get_or_insert_with in let f = c.get_or_insert_with.follows in
    let new = keyed.state_of (f.lender i.field-0.now) in
    let made = moved_or_made eq _ old.map new c.args.key c.get_or_insert_with.result i.field-0 i.was
    i.ensures.value (f.holds i.field-0.now) in
    let v = c.unwrap.result.now in
    let l = c.lend_last.follows in (
      (
        refl,
        λ w ok. used_and_written eq g.met.K.Eq.laws _ old new c.args.key _ c.len-before.ensures.len
            c.len-before.ensures.distinct made w (state_of (l.lender w))
            (on-some c.unwrap.ensures (l.holds w)),
        tt,
      ),
      record {
        lends = tt;
        updates = updates-used eq g.met.K.Eq.laws old c.args.key c.len-before.ensures.distinct;
        value = lent_value eq _ old.map new c.args.key made v
            (rw c.unwrap.ensures at c.lend_last.ensures.value);
        handed_back = tt;
        made = tt;
      },
    )
