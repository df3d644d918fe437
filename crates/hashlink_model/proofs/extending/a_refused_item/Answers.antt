use Rattle.hashlink_model.proofs.InTurn.{stops_entries, stops_late, drained_takes}
use Rattle.hashlink_model.proofs.extending.a_refused_item.Goals as goal

pub returns-clause-entries : goal.returns-clause-entries
returns-clause-entries g c = stops_entries

pub returns-clause-spare : goal.returns-clause-spare
returns-clause-spare g c = stops_late

pub returns-clause-after_a_drain : goal.returns-clause-after_a_drain
returns-clause-after_a_drain g c = drained_takes
