use Rattle.std.proofs.Common.{◌∙◌, rules}
use Rattle.test_calls.proofs.lower.find_each.Goals as goal

pub find-requires-clause-telling : goal.find-requires-clause-telling
find-requires-clause-telling g c = λ hash node there is. c.requires.telling hash node there ∙ search rules
