use Rattle.std.proofs.Common.{refl, ◌∙◌}
use Rattle.hashlink_uses.proofs.pages.PageCache.close.Goals as goal

pub loop-self-init : goal.loop-self-init
loop-self-init g c n = refl

pub loop-self-preserved : goal.loop-self-preserved
loop-self-preserved g c n = c.in_default.ensures.unchanged n ∙ c.loop-self.invariant n
