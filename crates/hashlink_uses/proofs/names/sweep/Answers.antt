use Rattle.std.proofs.Common.{◌≡◌, refl, rules}
use Rattle.hashlink.proofs.CallerLemmas.{retained_where}
use Rattle.hashlink_uses.specs.Answers.{holds_at}
use Rattle.hashlink_uses.proofs.names.sweep.Goals as goal

pub returns-clause-left : goal.returns-clause-left
returns-clause-left g c =
    (retained_where _ (λ f. f.0.now ≡ c.args.now) (λ e. holds_at c.args.now e.1)
    (λ f k v b w g holds call. search rules) _ refl _ _ _ c.retain.ensures.retained.1.map).entries
