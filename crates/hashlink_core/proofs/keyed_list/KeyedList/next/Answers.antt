use Rattle.hashlink_core.proofs.{Names.length-values_of, Calls.{place-inside, next-inside}}
use Rattle.hashlink_core.proofs.keyed_list.KeyedList.next.Goals as goal

pub returns : goal.returns
returns g c =
    rw (length-values_of c.args.self.now.nodes) (next-inside g.met.K.Eq.laws c.self.view_is c.self.invariant
    c.args.place c.next.result c.requires c.next.ensures.place)

pub next-requires : goal.next-requires
next-requires g c = place-inside g.met.K.Eq.laws c.self.view_is c.self.invariant c.args.place c.requires
