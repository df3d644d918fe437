use Rattle.hashlink_map.proofs.{Names.guard-number, AtNode.stays-last}
use Rattle.hashlink_map.proofs.map.LinkedHashMap.move_to_back.Goals as goal

pub returns-clause-moves : goal.returns-clause-moves
returns-clause-moves g c =
    rw (← guard-number c.args.self.now, ← c.self.view_is) c.move_before.ensures.moved.state

pub returns-clause-stays : goal.returns-clause-stays
returns-clause-stays g c =
    stays-last g.met.K.Eq.laws _ _ c.move_before.ensures.sound c.args.node c.requires
    (rw c.self.view_is at c.move_before.ensures.moved.nodes)

pub returns-clause-distinct : goal.returns-clause-distinct
returns-clause-distinct g c = rw c.self.view_is at c.move_before.ensures.was_sound.distinct
