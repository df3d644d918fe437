use Rattle.hashlink_core.proofs.Calls.{held-inside, before-inside}
use Rattle.hashlink_core.proofs.keyed_list.KeyedList.before.Goals as goal

pub before-requires : goal.before-requires
before-requires g c = held-inside g.met.K.Eq.laws c.self.view_is c.self.invariant c.args.node c.requires

pub returns : goal.returns
returns g c = before-inside g.met.K.Eq.laws c.self.view_is c.self.invariant c.args.node c.requires
    c.before-2.result c.before-2.ensures.prev
