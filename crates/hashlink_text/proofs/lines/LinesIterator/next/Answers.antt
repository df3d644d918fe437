use Rattle.std.proofs.{Common.{◌<◌, length, arith, rules, refl, ap}, lemmas.Bool.Decides.nat_tests}
use Rattle.hashlink_text.{specs.Lines.lines_of, proofs.Cutting.lines_of-cut}
use Rattle.hashlink_text.proofs.lines.LinesIterator.next.Goals as goal

pub returns-clause-steps : goal.returns-clause-steps
returns-clause-steps c =
    lines_of-cut c.args.self.now.rest.now c.cut.result.0.now c.cut.result.1 c.unwrap_or-self.result _
    (grind (arith, nat_tests)) c.cut.ensures refl c.unwrap_or-self.ensures

pub returns-clause-goes : goal.returns-clause-goes
returns-clause-goes c =
    let fewer : length (lines_of c.unwrap_or-self.result.now) < length (lines_of c.args.self.now.rest.now) =
    omega (arith, ap length (returns-clause-steps c)) in
    search rules
