use Rattle.std.proofs.Common.{◌≡◌, nat_lt, refl, rules}
use Rattle.hashlink.proofs.CallerLemmas.{set_retained_where}
use Rattle.hashlink_uses.proofs.maps.retains.keep_below.Goals as goal

pub returns : goal.returns
returns g c = set_retained_where _ (λ f. f.0.now ≡ c.args.bound) (λ element. nat_lt element c.args.bound)
    (λ f element b g holds call. search rules) _ refl _ _ _ c.retain.ensures.retained.1
