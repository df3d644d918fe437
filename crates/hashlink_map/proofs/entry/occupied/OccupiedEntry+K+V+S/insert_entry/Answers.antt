use Rattle.hashlink_map.proofs.Names.{length, ap, ◌∙◌, subst, entries_of, state_of, then_moves, IsEntries}
use Rattle.hashlink_map.proofs.EntryUpdates.{updates-pair_last}
use Rattle.hashlink_model.proofs.Occupied.{length-replace_entry}
use Rattle.hashlink_map.proofs.entry.occupied.OccupiedEntry+K+V+S.insert_entry.Goals as goal

pub returns-clause-inserts : goal.returns-clause-inserts
returns-clause-inserts g c =
    let o = c.args.self in let first = c.replace_pair_at-old.ensures in
    record {
      answer = first.replaces.answer;
      step = then_moves _ _ _ _ first.replaces.step _ _ _ _ first.stays.place
          (ap length first.replaces.step.entries
          ∙ length-replace_entry (entries_of o.map.now) _ o.key c.args.value) c.move_to_back.ensures.moves;
    }

pub returns-clause-updates : goal.returns-clause-updates
returns-clause-updates g c =
    let o = c.args.self in
    updates-pair_last g.K.PartialEq.eq g.met.K.Eq.laws (state_of o.map.now) _ o.key _ o.stands.place
    c.args.value _
    (subst (IsEntries g.K.PartialEq.eq) c.replace_pair_at-old.ensures.replaces.step.entries
    c.move_to_back.ensures.distinct) (returns-clause-inserts g c)
