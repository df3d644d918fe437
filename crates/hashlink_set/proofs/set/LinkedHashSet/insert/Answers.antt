use Rattle.std.{proofs.Common.{rules, Result, Ok, Err, Some}, specs.Prelude.OnOk}
use Rattle.hashlink_core.specs.Keyed.{entries_of}
use Rattle.hashlink_model.proofs.SetUpdates.{set_updates}
use Rattle.hashlink_set.proofs.Entering.{inserts_by_answer}
use Rattle.hashlink_set.proofs.set.LinkedHashSet.insert.Goals as goal

pub returns-clause-inserts : goal.returns-clause-inserts
returns-clause-inserts g c = search rules

pub returns-clause-elements : goal.returns-clause-elements
returns-clause-elements g c = (inserts_by_answer _ _ _ _ _ (returns-clause-inserts g c)).0

pub returns-clause-new : goal.returns-clause-new
returns-clause-new g c = (inserts_by_answer _ _ _ _ _ (returns-clause-inserts g c)).1

pub returns-clause-there : goal.returns-clause-there
returns-clause-there g c = (inserts_by_answer _ _ _ _ _ (returns-clause-inserts g c)).2

on_ok : {A E : Type 0} (r : Result A E) (P : Type 0) → P → OnOk r P
on_ok (Ok x) P p = p
on_ok (Err e) P p = tt

pub returns-clause-updates : goal.returns-clause-updates
returns-clause-updates g c = elim c.match-insert.branch [
  | goal.in-Ok w ↦ (
      on_ok c.match-insert.result _ (rw (← c.self.view_is)
      (set_updates g.T.PartialEq.eq (g.T.PartialEq.eq c.args.value) (entries_of c.self.inside.map)
      (entries_of c.insert.new.self) (Some tt) w.in-Ok.ensures.updates)))
  | goal.in-Err w ↦ rw w.result-is tt
]
