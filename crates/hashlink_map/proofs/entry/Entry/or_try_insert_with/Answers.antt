use Rattle.hashlink_map.proofs.Names.{refl, rules, subst}
use Rattle.std.proofs.lemmas.Result.{IfOk-weaker}
use Rattle.hashlink_map.proofs.Answering.{or_made, no_refusal, no_pair, vacant_puts}
use Rattle.hashlink_map.proofs.entry.Entry.or_try_insert_with.Goals as goal

pub returns-in-Occupied : goal.returns-in-Occupied
returns-in-Occupied g c =
    let r = c.into_last_mut.result in let f = c.into_last_mut.follows in
    rw c.in-Occupied.is (
      (refl, f.holds, no_refusal r _ f.holds-at-none),
      record {
        lends = tt;
        updates = c.into_last_mut.ensures.updates;
        value = or_made r _ _ c.into_last_mut.ensures.value;
        handed_back = no_pair r _ f.holds-at-none;
      },
    )

pub returns-in-Vacant : goal.returns-in-Vacant
returns-in-Vacant g c =
    let e = c.try_insert.ensures in let f = c.try_insert.follows in
    rw c.in-Vacant.is (
      (refl, (λ w ok. vacant_puts (f.holds w ok)), f.holds-at-none),
      record {
        lends = tt;
        updates = e.updates;
        value = IfOk-weaker c.try_insert.result _ _
            (λ v is. subst (g.F.FnOnce.post c.args.default tt) is c.default.ensures) e.value;
        handed_back = search rules;
      },
    )
