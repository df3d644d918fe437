use Rattle.hashlink_core.proofs.Names.{length, None, arith, length-values_of}
use Rattle.hashlink_core.proofs.{Calls.{sound, prev-inside}, Neighbours.{before-guard, empty-at}}
use Rattle.hashlink_core.proofs.keyed_list.KeyedList.back.Goals as goal

pub returns-clause-place : goal.returns-clause-place
returns-clause-place g c =
    rw (length-values_of c.args.self.now.nodes, ← before-guard (length c.args.self.now.nodes))
    (prev-inside g.met.K.Eq.laws c.self.view_is c.self.invariant None c.prev.result tt c.prev.ensures.place)

pub returns-clause-none : goal.returns-clause-none
returns-clause-none g c =
    let m = c.args.self.now in
    empty-at m.nodes c.prev.result _ (returns-clause-place g c).number
    (omega (arith, length-values_of m.nodes))

pub returns-clause-sound : goal.returns-clause-sound
returns-clause-sound g c = sound c.self.view_is c.self.invariant
