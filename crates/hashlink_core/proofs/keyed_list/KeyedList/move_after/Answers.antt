use Rattle.std.proofs.Common.{refl}
use Rattle.hashlink_core.proofs.Calls.{sound, held-inside, rest-inside, moved-after}
use Rattle.hashlink_core.proofs.keyed_list.KeyedList.move_after.Goals as goal

pub returns-clause-moved : goal.returns-clause-moved
returns-clause-moved g c =
    let m = c.move_after.ensures in
    (moved-after g.met.K.Eq.laws c.self.view_is c.self.invariant c.args.node c.requires.node
    c.move_after.new.self m.free m.link_writes c.args.place c.requires.place m.moved).1

pub move_after-requires-clause-node : goal.move_after-requires-clause-node
move_after-requires-clause-node g c =
    held-inside g.met.K.Eq.laws c.self.view_is c.self.invariant c.args.node c.requires.node

pub move_after-requires-clause-place : goal.move_after-requires-clause-place
move_after-requires-clause-place g c =
    rest-inside g.met.K.Eq.laws c.self.view_is c.self.invariant c.args.node c.args.place c.requires.place

pub invariant_of-self : goal.invariant_of-self
invariant_of-self g c =
    let m = c.move_after.ensures in
    (moved-after g.met.K.Eq.laws c.self.view_is c.self.invariant c.args.node c.requires.node
    c.move_after.new.self m.free m.link_writes c.args.place c.requires.place m.moved).0

pub returns-clause-sound : goal.returns-clause-sound
returns-clause-sound g c = sound refl (invariant_of-self g c)

pub returns-clause-was_sound : goal.returns-clause-was_sound
returns-clause-was_sound g c = sound c.self.view_is c.self.invariant
