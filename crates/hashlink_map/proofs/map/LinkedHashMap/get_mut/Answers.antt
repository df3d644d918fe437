use Rattle.hashlink_map.proofs.Names.{Some, refl, sym, ap, is_some, lent, stored-value, lookup-unplaced, ◌≡◌}
use Rattle.hashlink_map.proofs.Names.{lookup, entries_of, state_of, none_passes_from_place}
use Rattle.hashlink_model.proofs.{MovedLast.writes_none, Updates.updates-written}
use Rattle.hashlink_map.proofs.map.LinkedHashMap.get_mut.Goals as goal

pub returns-in-Some : goal.returns-in-Some
returns-in-Some g c =
    let test = g.Q.Equivalent.matches c.args.key in
    let tells = g.met.Q.Equivalent.finds_equal c.args.key in
    let m = c.args.self.now in let n = c.in-Some.node in
    let e = c.in-Some.ensures in
    let value : lookup test (entries_of m) ≡ Some c.value_at_mut.result.now
    = stored-value test m m n e.found _ c.value_at_mut.ensures.value in (
      (refl, lent test m m n e.found, refl),
      record {
        lends = tt;
        updates = λ written. updates-written g.K.PartialEq.eq g.met.K.Eq.laws test tells (entries_of m)
            written (ap is_some value);
        value = sym value;
        distinct = e.distinct;
      },
    )

pub returns-in-None : goal.returns-in-None
returns-in-None g c =
    let test = g.Q.Equivalent.matches c.args.key in
    let m = c.args.self.now in let e = c.in-None.ensures in
    let none = none_passes_from_place test (entries_of m) e.found in (
      (refl, λ w. writes_none test (state_of m) w none, refl),
      record {
        lends = tt;
        updates = tt;
        value = sym (lookup-unplaced (g.Q.Equivalent.matches c.args.key) _ e.found);
        distinct = e.distinct;
      },
    )
