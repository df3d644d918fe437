use Rattle.std.proofs.lemmas.Result.{on_ok_weaker}
use Rattle.hashlink_core.specs.{Hashing.default_builder, Keyed.state_of}
use Rattle.hashlink_text.{specs.Lines.lines_of, specs.Transcript.LineShows, proofs.Progress.Pushes-seen}
use Rattle.hashlink_text.specs.declared.map_text.MapWithReplies.{MapWithReplies}
use Rattle.hashlink_text.proofs.map_text.run_map_lines.Goals as goal

pub returns : goal.returns
returns c =
    let new = c.answer_lines.new in
    let old : MapWithReplies =
    record { alloc = c.args.alloc; map = c.new.result; replies = c.new-2.result } in
    on_ok_weaker c.answer_lines.result
    (λ pushed.
    let seen =
    Pushes-seen (λ (m : MapWithReplies). state_of m.map) LineShows c.args.out.now new.out old
    (lines_of c.args.lines.rest.now) new.container pushed in
    (seen.0, (default_builder, state_of new.container.map, rw c.new.ensures at seen.1), seen.2))
    c.answer_lines.ensures
