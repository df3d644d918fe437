use Rattle.hashlink_core.proofs.{Names.length-values_of, Calls.{place-inside, prev-inside}}
use Rattle.hashlink_core.proofs.keyed_list.KeyedList.prev.Goals as goal

pub returns : goal.returns
returns g c =
    rw (length-values_of c.args.self.now.nodes) (prev-inside g.met.K.Eq.laws c.self.view_is c.self.invariant
    c.args.place c.prev.result c.requires c.prev.ensures.place)

pub prev-requires : goal.prev-requires
prev-requires g c = place-inside g.met.K.Eq.laws c.self.view_is c.self.invariant c.args.place c.requires
