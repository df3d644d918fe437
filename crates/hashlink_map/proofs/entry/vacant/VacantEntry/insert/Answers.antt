use Rattle.std.proofs.Common.{refl}
use Rattle.hashlink_model.proofs.Updates.{updates-put}
use Rattle.hashlink_map.proofs.AtNode.{adds-written, added-value}
use Rattle.hashlink_map.proofs.entry.vacant.VacantEntry.insert.Goals as goal

pub returns : goal.returns
returns g c =
    let e = c.in_ok-node.ensures in let laws = g.met.K.Eq.laws in
    let put = adds-written laws _ c.push_back.new.self c.args.self.key c.args.value
    c.in_ok-node.node e.inserts e.place in (
      (refl, λ w _. put w, tt),
      record {
        lends = tt;
        handed_back = tt;
        updates = λ w. updates-put _ laws _ c.args.self.key w _ c.push_back.ensures.distinct;
        value = added-value laws _ c.push_back.new.self c.args.self.key c.args.value
            c.in_ok-node.node e.inserts e.place _ c.value_at_mut.ensures.value;
      },
    )
