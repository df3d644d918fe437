use Rattle.std.proofs.Common.{ap, ◌∙◌}
use Rattle.hashlink.proofs.Walking.{on-some, shown-entry, writes-next}
use Rattle.test_calls.proofs.loops.copy_keys.Goals as goal

pub loop-key-preserved-in-Some-next_value : goal.loop-key-preserved-in-Some-next_value
loop-key-preserved-in-Some-next_value c =
    let told = on-some c.in-Some-next_value.is (c.next_value.follows.holds c.in-Some.key.now).0 in (
      told.0 ∙ c.loop-key.invariant.0,
      writes-next _ c.loop-key.invariant.1 c.in-Some-next_value.ensures.left
          (λ e at. ap (λ x. x.0) (shown-entry c.in-Some.ensures.pair at)) told.1,
    )
