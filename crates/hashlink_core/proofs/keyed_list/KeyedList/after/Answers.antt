use Rattle.hashlink_core.proofs.Calls.{held-inside, after-inside}
use Rattle.hashlink_core.proofs.keyed_list.KeyedList.after.Goals as goal

pub after-requires : goal.after-requires
after-requires g c = held-inside g.met.K.Eq.laws c.self.view_is c.self.invariant c.args.node c.requires

pub returns : goal.returns
returns g c = after-inside g.met.K.Eq.laws c.self.view_is c.self.invariant c.args.node c.requires
    c.after.result c.after.ensures.next c.after.ensures.last
