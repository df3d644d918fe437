use Rattle.std.{proofs.Common.{◌≡◌, drop}, specs.Map.lookup, specs.Str.bytes_eq}
use Rattle.hashlink_text.specs.Cuts.{words_shown}
use Rattle.hashlink_text.proofs.tables.said_by.Given as goal

abbrev pub invariant-loop-word : goal.invariant-loop-word
invariant-loop-word g l = lookup (bytes_eq l.name) (words_shown (drop l.word-index l.table))
    ≡ lookup (bytes_eq l.name) (words_shown l.table)
