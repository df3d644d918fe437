use Rattle.hashlink_model.proofs.Updates.{updates-left}
use Rattle.hashlink_map.proofs.Outcomes.{removed_was_there, removes_entries}
use Rattle.hashlink_map.proofs.map.LinkedHashMap.remove_entry.Goals as goal

pub returns : goal.returns
returns g c =
    let e = c.remove_key.ensures in
    let entries = removes_entries _ _ _ _ e.removes in
    rw (← c.self.view_is) (record {
      found = e.removes.answer;
      entries = entries;
      updates = updates-left g.K.PartialEq.eq g.met.K.Eq.laws (g.Q.Equivalent.matches c.args.key)
          (g.met.Q.Equivalent.finds_equal c.args.key) _ _ e.was_sound.distinct entries;
      held = removed_was_there _ _ _ _ e.removes;
      removes = e.removes;
      distinct = e.sound.distinct;
    })
