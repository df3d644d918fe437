use Rattle.hashlink_map.proofs.Names.{refl, sym, ap, subst}
use Rattle.std.proofs.lemmas.Result.{IfOk-weaker, IfErr-weaker}
use Rattle.hashlink_map.proofs.Answering.{or_made, no_refusal, no_pair, vacant_puts, vacant_refuses}
use Rattle.hashlink_map.proofs.entry.Entry.or_insert_with.Goals as goal

pub returns-in-Occupied : goal.returns-in-Occupied
returns-in-Occupied g c =
    let r = c.into_last_mut.result in let f = c.into_last_mut.follows in
    rw c.in-Occupied.is (
      (refl, f.holds, no_refusal r _ f.holds-at-none),
      record {
        lends = tt;
        updates = c.into_last_mut.ensures.updates;
        value = or_made r _ _ c.into_last_mut.ensures.value;
        handed_back = no_pair r _ f.holds-at-none;
        made = no_pair r _ f.holds-at-none;
      },
    )

pub returns-in-Vacant : goal.returns-in-Vacant
returns-in-Vacant g c =
    let r = c.insert.result in let e = c.insert.ensures in let f = c.insert.follows in
    let Made = g.F.FnOnce.post c.args.default tt in let made = c.default.ensures in
    rw c.in-Vacant.is (
      (refl, (λ w ok. vacant_puts (f.holds w ok)), vacant_refuses _ _ _ _ _ r f.holds-at-none e.handed_back),
      record {
        lends = tt;
        updates = e.updates;
        value = IfOk-weaker r _ _ (λ v is. subst Made (sym is) made) e.value;
        handed_back = IfErr-weaker r _ _ (λ p is. ap (λ x. x.0) is) e.handed_back;
        made = IfErr-weaker r _ _ (λ p is. subst Made (ap (λ x. x.1) (sym is)) made) e.handed_back;
      },
    )
