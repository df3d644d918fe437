use Rattle.std.proofs.Common.{refl}
use Rattle.hashlink_core.proofs.Calls.{sound, held-inside, part-stored, value-written}
use Rattle.hashlink_core.proofs.keyed_list.KeyedList.replace_value.Goals as goal

pub returns-clause-written : goal.returns-clause-written
returns-clause-written g c =
    let v = c.replace_value.ensures in
    (value-written g.met.K.Eq.laws c.self.view_is c.self.invariant c.args.node c.requires
    c.replace_value.new.self c.args.value v.entries v.free v.link_writes).1

pub returns-clause-value : goal.returns-clause-value
returns-clause-value g c =
    part-stored g.met.K.Eq.laws c.self.view_is c.self.invariant c.args.node c.requires
    (λ h. h.value) (λ e. e.1) (λ h. refl) c.replace_value.result c.replace_value.ensures.value

pub replace_value-requires : goal.replace_value-requires
replace_value-requires g c =
    held-inside g.met.K.Eq.laws c.self.view_is c.self.invariant c.args.node c.requires

pub invariant_of-self : goal.invariant_of-self
invariant_of-self g c =
    let v = c.replace_value.ensures in
    (value-written g.met.K.Eq.laws c.self.view_is c.self.invariant c.args.node c.requires
    c.replace_value.new.self c.args.value v.entries v.free v.link_writes).0

pub returns-clause-sound : goal.returns-clause-sound
returns-clause-sound g c = sound refl (invariant_of-self g c)

pub returns-clause-was_sound : goal.returns-clause-was_sound
returns-clause-was_sound g c = sound c.self.view_is c.self.invariant
