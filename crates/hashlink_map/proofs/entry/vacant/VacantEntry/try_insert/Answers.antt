use Rattle.std.proofs.Common.{Ok, refl, sym, ap, ◌∙◌}
use Rattle.hashlink_model.proofs.Updates.{updates-put}
use Rattle.hashlink_map.proofs.AtNode.{adds-written, added-value}
use Rattle.hashlink_map.proofs.entry.vacant.VacantEntry.try_insert.Goals as goal

pub returns-in-Ok-push_back : goal.returns-in-Ok-push_back
returns-in-Ok-push_back g c =
    let e = c.in-Ok-push_back.ensures in let laws = g.met.K.Eq.laws in
    let n = c.in-Ok-push_back.node in
    let put = adds-written laws _ c.push_back.new.self c.args.self.key c.in-Ok.value n e.inserts e.place in (
      (refl, λ w _. put w, tt),
      record {
        lends = tt;
        handed_back = tt;
        updates = λ w. updates-put _ laws _ c.args.self.key w _ c.push_back.ensures.distinct;
        value = c.in-Ok.is ∙ ap Ok (sym (added-value laws _ c.push_back.new.self c.args.self.key c.in-Ok.value
            n e.inserts e.place _ c.value_at_mut.ensures.value));
      },
    )
