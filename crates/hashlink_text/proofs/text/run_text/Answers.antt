use Rattle.std.proofs.Common.{◌≡◌, ◌∷◌, ◌++◌, sym, ap, ◌∙◌, subst}
use Rattle.hashlink_core.specs.declared.hash_builder.DefaultHashBuilder.{DefaultHashBuilder}
use Rattle.hashlink_text.specs.{Lines.lines_of, Text.{LinesRun, ModeRun}}
use Rattle.hashlink_text.proofs.text.run_text.Goals as goal

pub returns-clause-answer : goal.returns-clause-answer
returns-clause-answer c =
    let pushed = c.in_ok-run_lines.ensures in
    let rest = lines_of c.next.new.self.rest.now in
    let lines : lines_of c.args.input.now ≡ c.in-Some.mode.now ∷ rest =
    sym c.new-lines.ensures ∙ c.in-Some.ensures.steps in
    let text : c.into_bytes.result.items ≡ pushed.0 =
    rw c.into_bytes.ensures.value (pushed.2 ∙ ap (λ old. old ++ pushed.0) c.new-out.ensures.bytes) in
    let runs = subst (ModeRun DefaultHashBuilder c.meaning_of.result rest) (sym text) pushed.1 in
    subst (λ ls. LinesRun DefaultHashBuilder ls c.into_bytes.result.items) (sym lines)
    (c.meaning_of.result, c.meaning_of.ensures, runs)
