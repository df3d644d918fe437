use Rattle.hashlink_text.proofs.Answered.{ends, entries, only_answer}
use Rattle.hashlink_text.proofs.laws.answers_of_an_empty_map.Goals as goal

pub returns : goal.returns
returns c = record { ends = only_answer (ends _); entries = only_answer (entries _) }
