use Rattle.std.proofs.Common.{◌≡◌, string_bytes}
use Rattle.hashlink_text.{specs.Lines.lines_of, specs.CacheTranscript.PairLineShows, proofs.Progress.HasCome}
use Rattle.hashlink_lru.specs.Cached.{entries_of, state_of}
use Rattle.hashlink_text.proofs.pair_text.answer_all.Given as goal

abbrev pub invariant-loop-line : goal.invariant-loop-line
invariant-loop-line l =
    HasCome (PairLineShows (state_of l.fn.small).cap (state_of l.fn.large).cap)
    (entries_of l.fn.small, entries_of l.fn.large) (entries_of l.small, entries_of l.large)
    (lines_of l.fn.lines.rest.now) (lines_of l.line-iterator.rest.now) (string_bytes l.fn.out)
    (string_bytes l.out)
    × ((state_of l.small).cap ≡ (state_of l.fn.small).cap)
    × ((state_of l.large).cap ≡ (state_of l.fn.large).cap)
