use Rattle.std.proofs.Common.{[], ◌∷◌, codes}
use Rattle.hashlink_core.specs.declared.hash_builder.DefaultHashBuilder.{DefaultHashBuilder}
use Rattle.hashlink_text.proofs.{Answered.{bads, reads, insert_answers, only_answer}, ReadSo.runs_read}
use Rattle.hashlink_text.proofs.laws.answers_to_texts.Goals as goal

pub returns : goal.returns
returns c = record {
  no_line = λ text t. t;
  mode_alone = λ text t. (runs_read DefaultHashBuilder (codes "map") [] text t).2.0;
  bad_mode = λ text t. runs_read DefaultHashBuilder (codes "map ") (codes "iter" ∷ []) text t;
  bad_lines = only_answer (bads _);
  reads = only_answer (reads _ []);
  insert = insert_answers;
}
