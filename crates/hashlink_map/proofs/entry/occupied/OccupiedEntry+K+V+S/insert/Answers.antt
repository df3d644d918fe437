use Rattle.hashlink_map.proofs.Names.{◌≡◌, ◌-◌, ℕ, Some, length, ap, ◌∙◌, length-set_value_at, entries_of}
use Rattle.hashlink_map.proofs.{Names.{state_of, then_moves}, EntryUpdates.updates-value_last}
use Rattle.hashlink_model.specs.Entry.{EntryState}
use Rattle.hashlink_map.proofs.entry.occupied.OccupiedEntry+K+V+S.insert.Goals.{After-move_to_back}
use Rattle.hashlink_map.proofs.entry.occupied.OccupiedEntry+K+V+S.insert.Given as given
use Rattle.hashlink_map.proofs.entry.occupied.OccupiedEntry+K+V+S.insert.Goals as goal

same-length : (g : given.Over) (c : After-move_to_back g)
    → length (entries_of c.replace_value_at-old.new.self) ≡ length (entries_of c.args.self.now.map.now)
same-length g c =
    ap length c.replace_value_at-old.ensures.replaces.step.entries
    ∙ length-set_value_at (entries_of c.args.self.now.map.now) _ c.args.value

pub returns-clause-inserts : goal.returns-clause-inserts
returns-clause-inserts g c =
    let first = c.replace_value_at-old.ensures in
    record {
      answer = first.replaces.answer;
      step = then_moves _ _ _ _ first.replaces.step _ _ _ _ first.stays.place
          (same-length g (goal.at.returns-clause-inserts g c).After-move_to_back)
          c.move_to_back.ensures.moves;
    }

pub returns-clause-updates : goal.returns-clause-updates
returns-clause-updates g c =
    let o = c.args.self.now in
    updates-value_last g.K.PartialEq.eq g.met.K.Eq.laws (state_of o.map.now) _ o.key _ o.stands.place
    c.args.value _ c.replace_value_at-old.ensures.distinct (returns-clause-inserts g c)

pub returns-clause-stands : goal.returns-clause-stands
returns-clause-stands g c =
    let stood : ℕ → EntryState g.row.K.Denot g.row.V.Denot g.row.S.Denot
    = λ i. record { map = state_of c.move_to_back.new.self; place = Some i; key = c.args.self.now.key } in
    ap stood (c.move_to_back.ensures.stays.place
    ∙ ap (λ n. n - 1) (same-length g (goal.at.returns-clause-stands g c).After-move_to_back))
