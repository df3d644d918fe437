use Rattle.std.proofs.Common.{◌≡◌, true, refl, ◌∙◌, nat_eq}
use Rattle.hashlink_model.specs.RetainRows.{TimesTen, one_to_six}
use Rattle.hashlink_model.proofs.Retains.{stays_in_order, stays_in_some_order}
use Rattle.hashlink_model.proofs.retain.what_a_closure_ends_as.Goals as goal

pub returns-clause-unchanged : goal.returns-clause-unchanged
returns-clause-unchanged g c new h r =
    stays_in_some_order TimesTen (λ f. f ≡ 7) (λ f k v b w h t s. t.2 ∙ s) nat_eq 7 one_to_six new h r refl

pub returns-clause-in_order : goal.returns-clause-in_order
returns-clause-in_order g c stays = stays_in_order _ (λ f. stays f ≡ true)

pub returns-clause-some_order : goal.returns-clause-some_order
returns-clause-some_order g c stays = stays_in_some_order _ (λ f. stays f ≡ true)
