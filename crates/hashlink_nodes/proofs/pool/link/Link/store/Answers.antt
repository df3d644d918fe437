use Rattle.std.proofs.Common.{rules}
use Rattle.hashlink_nodes.proofs.pool.link.Link.store.Goals as goal

pub returns-clause-counted : goal.returns-clause-counted
returns-clause-counted c = search rules
