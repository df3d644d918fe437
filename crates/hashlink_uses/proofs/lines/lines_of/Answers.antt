use Rattle.std.proofs.lemmas.Iterator.{Consumers.map_from_collect, Splits.YieldsList-from_lines}
use Rattle.hashlink_uses.proofs.lines.lines_of.Goals as goal

pub returns : goal.returns
returns c =
    map_from_collect _ c.collect.ensures.ran (YieldsList-from_lines c.args.text.now c.lines.ensures.rest)
