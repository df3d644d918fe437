use Rattle.hashlink_core.specs.Keyed.{pair_with_value}
use Rattle.hashlink_map.proofs.AtNode.{stays-renewed}
use Rattle.hashlink_map.proofs.map.LinkedHashMap.replace_value_at.Goals as goal

pub returns-clause-replaces : goal.returns-clause-replaces
returns-clause-replaces g c =
    let e = c.replace_value.ensures in
    rw (← c.self.view_is) (record { answer = e.value; step = e.written.state })

pub returns-clause-stays : goal.returns-clause-stays
returns-clause-stays g c =
    stays-renewed g.met.K.Eq.laws _ _ c.replace_value.ensures.sound c.args.node c.requires
    (pair_with_value c.args.value) (λ k t. t) (rw c.self.view_is at c.replace_value.ensures.written.nodes)

pub returns-clause-distinct : goal.returns-clause-distinct
returns-clause-distinct g c = rw c.self.view_is at c.replace_value.ensures.was_sound.distinct
