use Rattle.std.proofs.Common.{nat_eq, rules, ◌/◌, ◌%◌}
use Rattle.hashlink.proofs.CallerLemmas.{retained_writing}
use Rattle.hashlink_uses.proofs.maps.retains.halve_even.Goals as goal

pub returns : goal.returns
returns g c = retained_writing _ (λ f. Unit {0}) (λ e. nat_eq (e.1 % 2) 0) (λ e. e.1 / 2)
    (λ f k v b w g holds call. search rules) _ tt _ _ _ c.retain.ensures.retained.1
