use Rattle.hashlink_text.proofs.Grammar.{one_spelling}
use Rattle.hashlink_text.proofs.Readers.{reads_cache, reads_line, reads_mode, reads_pairs, reads_weighted}
use Rattle.hashlink_text.proofs.spelling_laws.no_two_lines_share_a_spelling.Goals as goal

pub returns : goal.returns
returns c = record {
  map = one_spelling reads_line;
  cache = one_spelling reads_cache;
  pair = one_spelling reads_pairs;
  weighted = one_spelling reads_weighted;
  mode = one_spelling reads_mode;
}
