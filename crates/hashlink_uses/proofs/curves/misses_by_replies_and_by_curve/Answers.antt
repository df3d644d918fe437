use Rattle.std.proofs.Common.{ap, sym, ◌∙◌}
use Rattle.hashlink.specs.History.{cache_misses}
use Rattle.hashlink_uses.proofs.curves.misses_by_replies_and_by_curve.Goals as goal

pub returns : goal.returns
returns g c =
    c.in_ok-by_replies.ensures.counted
    ∙ sym (c.in_ok-misses_of.ensures
    ∙ ap (cache_misses g.K.PartialEq.eq c.args.capacity) (c.deref.ensures.value ∙ c.in_ok-keys.ensures))
