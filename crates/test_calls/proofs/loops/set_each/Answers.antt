use Rattle.std.proofs.Common.{refl, ◌∙◌}
use Rattle.hashlink.proofs.Walking.{on-some, writes-next}
use Rattle.test_calls.proofs.loops.set_each.Goals as goal

pub loop-old-preserved : goal.loop-old-preserved
loop-old-preserved c =
    let told = on-some c.in-Some.is (c.next.follows.holds c.args.value).0 in (
      told.0 ∙ c.loop-old.invariant.0,
      writes-next _ c.loop-old.invariant.1 c.in-Some.ensures.left (λ e at. refl) told.1,
    )
