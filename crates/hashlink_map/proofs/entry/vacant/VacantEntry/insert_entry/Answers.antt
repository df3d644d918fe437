use Rattle.std.proofs.Common.{refl}
use Rattle.hashlink_model.proofs.Updates.{updates-put}
use Rattle.hashlink_map.proofs.entry.vacant.VacantEntry.insert_entry.Goals as goal

pub returns : goal.returns
returns g c =
    let e = c.in_ok-node.ensures in (
      (refl, (λ w. refl), tt),
      record {
        hands_on = tt;
        same_map = refl;
        adds = e.inserts;
        updates = rw e.inserts.adds.entries (updates-put g.K.PartialEq.eq g.met.K.Eq.laws _ c.args.self.key
            c.args.value _ c.push_back.ensures.distinct);
        last = e.place;
        handed_back = tt;
      },
    )
