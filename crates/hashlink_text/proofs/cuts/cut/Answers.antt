use Rattle.std.proofs.Common.{◌≡◌, ◌==◌, ◌+◌, ◌-◌, length, take, drop, sym, ◌∙◌, rules, tests, arith}
use Rattle.std.proofs.lemmas.{Iterator.YieldsList-from_slice, Iterator.Search.position_from_yields_List}
use Rattle.std.proofs.lemmas.Grind.{common_steps}
use Rattle.hashlink_text.proofs.Cutting.{slice_split-position_none, slice_split-position_some}
use Rattle.hashlink_text.proofs.cuts.cut.Goals as goal

pub returns-in-Some : goal.returns-in-Some
returns-in-Some c =
    let text = c.args.text.now in
    let at = c.in-Some.at in
    let answer =
    position_from_yields_List (λ b. b == c.args.byte) _ _ _ c.position.ensures.ran
    (YieldsList-from_slice text cc) (λ x b q k. search (rules, tests)) in
    let first = slice_split-position_some (λ b. b == c.args.byte) text at (sym answer ∙ c.in-Some.is) in
    let whole : take (length text - (at + 1)) (drop (at + 1) text)
    ≡ drop (at + 1) text = grind (arith, common_steps) in
    rw whole first

pub returns-in-None : goal.returns-in-None
returns-in-None c =
    let answer =
    position_from_yields_List (λ b. b == c.args.byte) _ _ _ c.position.ensures.ran
    (YieldsList-from_slice c.args.text.now cc) (λ x b q k. search (rules, tests)) in
    slice_split-position_none (λ b. b == c.args.byte) c.args.text.now (sym answer ∙ c.in-None.is)
