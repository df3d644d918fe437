use Rattle.std.proofs.Common.{◌∙◌}
use Rattle.hashlink_set.proofs.Texts.{another_text}
use Rattle.hashlink_uses.proofs.lookups.sets.forget_one_name.Goals as goal

pub returns : goal.returns
returns g c =
    c.contains.ensures.found
    ∙ another_text c.args.name.now c.args.other.now _ _ c.remove.ensures.updates.3 c.requires
