-- What a lookup of an element finds after a step, from what a lookup of the map's keys finds.
use Rattle.hashlink_model.proofs.Names.{◌≡◌, Bool, true, false, cond, List, Option, is_some, refl, sym, ap}
use Rattle.hashlink_model.proofs.Names.{◌∙◌, keys_of, lookup, is_some-lookup}
use Rattle.hashlink_model.specs.Lookups.{UpdatesBy, KeepsLookups, SetUpdatesBy, SetKeepsLookups}
use Rattle.std.specs.{Map.KeepsOthers, Set.{KeepsOthers as KeepsOtherElements}}

is_some-cond : {X : Type 0} (b : Bool) (x y : Option X)
    → is_some (cond b x y) ≡ cond b (is_some x) (is_some y)
is_some-cond true x y = refl
is_some-cond false x y = refl

module _ {T V : Type 0} (eq : T → T → Bool) (test : T → Bool) (old new : List (T × V)) where
  others_kept : KeepsOthers eq test old new → KeepsOtherElements eq test (keys_of old) (keys_of new)
  unfolding KeepsOthers KeepsOtherElements
  others_kept kept = λ other tells apart.
      sym (is_some-lookup other new) ∙ ap is_some (kept other tells apart) ∙ is_some-lookup other old

  pub set_updates : (w : Option V) → UpdatesBy eq test old new w
      → SetUpdatesBy eq test (keys_of old) (keys_of new) (is_some w)
  set_updates w u = (
    λ q. sym (is_some-lookup (eq q) new) ∙ ap is_some (u.0 q)
        ∙ is_some-cond (test q) w (lookup (eq q) old)
        ∙ ap (cond (test q) (is_some w)) (is_some-lookup (eq q) old),
    sym (is_some-lookup test new) ∙ ap is_some u.1,
    λ q n. sym (is_some-lookup (eq q) new) ∙ ap is_some (u.2 q n) ∙ is_some-lookup (eq q) old,
    others_kept u.3,
  )

  pub set_keeps : KeepsLookups eq test old new → SetKeepsLookups eq test (keys_of old) (keys_of new)
  set_keeps u = (
    λ q. sym (is_some-lookup (eq q) new) ∙ ap is_some (u.0 q) ∙ is_some-lookup (eq q) old,
    sym (is_some-lookup test new) ∙ ap is_some u.1 ∙ is_some-lookup test old,
    others_kept u.2,
  )
