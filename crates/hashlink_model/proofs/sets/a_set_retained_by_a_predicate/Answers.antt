use Rattle.hashlink_model.proofs.{Names.{ap, ◌∙◌, refl, keys_of}, SetElements.keys-filter}
use Rattle.hashlink_model.proofs.Retains.{keeps_is_filter, keeps_in_order_is_filter}
use Rattle.hashlink_model.proofs.sets.a_set_retained_by_a_predicate.Goals as goal

pub returns : goal.returns
returns g c = record {
  some_order = λ eq laws p says f es new h d r.
      ap keys_of (keeps_is_filter eq laws _ (λ e. p e.0) (λ g t v b w h u. (says g t b h u, refl)) f es
      new h d r) ∙ keys-filter p p es;
  in_order = λ p says f es new h r.
      ap keys_of (keeps_in_order_is_filter _ (λ e. p e.0) (λ g t v b w h u. (says g t b h u, refl)) f es
      new h r) ∙ keys-filter p p es;
}
