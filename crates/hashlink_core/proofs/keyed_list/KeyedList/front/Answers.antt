use Rattle.hashlink_core.proofs.Names.{length, None, around, arith}
use Rattle.hashlink_core.proofs.{Calls.{sound, next-inside}, Neighbours.empty-at}
use Rattle.hashlink_core.proofs.keyed_list.KeyedList.front.Goals as goal

pub returns-clause-place : goal.returns-clause-place
returns-clause-place g c = rw (around (length c.args.self.now.nodes)) at
    (next-inside g.met.K.Eq.laws c.self.view_is c.self.invariant None c.next.result tt c.next.ensures.place)

pub returns-clause-none : goal.returns-clause-none
returns-clause-none g c =
    empty-at c.args.self.now.nodes c.next.result 0 (returns-clause-place g c).number (omega arith)

pub returns-clause-sound : goal.returns-clause-sound
returns-clause-sound g c = sound c.self.view_is c.self.invariant
