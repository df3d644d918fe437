use Rattle.std.proofs.Common.{arith}
use Rattle.hashlink_uses.proofs.commands.length_after.Goals as goal

pub returns-clause-within : goal.returns-clause-within
returns-clause-within g c =
    let bound = c.in_ok-run_cache.ensures.bounded.without_entries 0 c.requires.no_entries c.requires.within in
    omega arith
