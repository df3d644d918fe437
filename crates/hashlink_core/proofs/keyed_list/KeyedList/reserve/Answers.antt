use Rattle.hashlink_core.proofs.{Names.{refl, arith}, Calls.sound, Stepping.step-same}
use Rattle.hashlink_core.proofs.keyed_list.KeyedList.reserve.Goals as goal

pub invariant_of-self : goal.invariant_of-self
invariant_of-self g c =
    let r = c.self.inside.nodes in
    step-same g.met.K.Eq.laws r r c.self.inside.table c.reserve.new.self refl c.reserve.ensures.nodes
    (omega (arith, c.self.invariant.fits, c.reserve.ensures.room)) c.self.invariant

pub returns-clause-sound : goal.returns-clause-sound
returns-clause-sound g c = sound c.self.view_is c.self.invariant
