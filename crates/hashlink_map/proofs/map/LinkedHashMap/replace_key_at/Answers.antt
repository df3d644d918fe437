use Rattle.hashlink_core.specs.Keyed.{pair_with_key}
use Rattle.hashlink_map.proofs.AtNode.{stays-renewed, same-keys}
use Rattle.hashlink_map.proofs.map.LinkedHashMap.replace_key_at.Goals as goal

pub returns-clause-stays : goal.returns-clause-stays
returns-clause-stays g c =
    let laws = g.met.K.Eq.laws in let sound = c.replace_key.ensures.sound in
    stays-renewed laws _ _ sound c.args.node c.requires.held (pair_with_key c.args.key)
    (same-keys laws _ _ sound c.args.node c.requires.held c.args.key c.requires.equal)
    (rw c.self.view_is at c.replace_key.ensures.written.nodes)

pub returns-clause-distinct : goal.returns-clause-distinct
returns-clause-distinct g c = rw c.self.view_is at c.replace_key.ensures.was_sound.distinct
