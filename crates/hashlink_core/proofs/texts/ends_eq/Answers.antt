use Rattle.std.proofs.Common.{sym, ◌∙◌}
use Rattle.hashlink_core.proofs.Windows.{last_decides, first_told, last_told}
use Rattle.hashlink_core.proofs.texts.ends_eq.Goals as goal

pub returns-then-eq : goal.returns-then-eq
returns-then-eq c =
    let xs = c.args.left.now in
    let ys = c.args.right.now in
    let long = c.requires.same_length in
    let le = c.requires.enough in
    let first = first_told xs ys _ long le _ _ c.first_chunk.ensures.cases c.first_chunk-2.ensures.cases in
    let last = last_told xs ys _ long le _ _ c.last_chunk.ensures.cases c.last_chunk-then-eq.ensures.cases in
    c.eq-then-eq.ensures ∙ last
    ∙ last_decides xs ys _ long le c.requires.covered (sym first ∙ sym c.eq.ensures ∙ c.if-eq.true)
