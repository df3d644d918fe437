use Rattle.std.proofs.Common.{refl, ap, ◌∙◌, arith}
use Rattle.hashlink_core.proofs.{Calls.{sound, shrunk-room}, Stepping.step-same}
use Rattle.hashlink_core.proofs.keyed_list.KeyedList.shrink_table.Goals as goal

pub invariant_of-self : goal.invariant_of-self
invariant_of-self g c =
    let t = c.self.inside.table in
    let r = c.self.inside.nodes in
    let room = shrunk-room t c.shrink.new.self c.shrink.result
    (omega (arith, c.self.invariant.fits, c.self.invariant.count)) c.shrink.ensures.ok
    c.shrink.ensures.unchanged in
    step-same g.met.K.Eq.laws r r t c.shrink.new.self refl c.shrink.ensures.nodes
    (omega (arith, room, c.self.invariant.count, ap (λ m. m.spare) c.self.view_is ∙ c.requires))
    c.self.invariant

pub returns-clause-sound : goal.returns-clause-sound
returns-clause-sound g c = sound c.self.view_is c.self.invariant
