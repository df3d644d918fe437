use Rattle.std.proofs.lemmas.Result.{on_ok_weaker}
use Rattle.hashlink_core.specs.Hashing.{default_builder}
use Rattle.hashlink_text.specs.{Lines.lines_of, CacheTranscript.CacheLineShows}
use Rattle.hashlink_text.proofs.Progress.{Pushes-seen}
use Rattle.hashlink_lru.specs.Cached.{state_of}
use Rattle.hashlink_text.proofs.cache_text.run_cache_lines.Goals as goal

pub returns : goal.returns
returns c =
    let new = c.answer_lines.new in
    on_ok_weaker c.answer_lines.result
    (λ pushed.
    let seen =
    Pushes-seen state_of CacheLineShows c.args.out.now new.out c.new-cache.result
    (lines_of c.args.lines.rest.now) new.container pushed in
    (seen.0, (default_builder, state_of new.container, rw c.new-cache.ensures at seen.1), seen.2))
    c.answer_lines.ensures
