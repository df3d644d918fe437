use Rattle.std.proofs.Common.{◌∙◌}
use Rattle.hashlink_core.proofs.Calls.{held-inside, stored}
use Rattle.hashlink_core.proofs.keyed_list.KeyedList.entry.Goals as goal

pub returns : goal.returns
returns g c = stored g.met.K.Eq.laws c.self.view_is c.self.invariant c.args.node c.requires ∙ c.entry.ensures

pub entry-requires : goal.entry-requires
entry-requires g c = held-inside g.met.K.Eq.laws c.self.view_is c.self.invariant c.args.node c.requires
