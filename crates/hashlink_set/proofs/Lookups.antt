-- What the map's lookups show for a set's elements.
use Rattle.std.{proofs.Common.◌∙◌, proofs.lemmas.Map.Made.is_some-lookup, specs.Map.{keys_of, lookup_entry}}
use Rattle.std.{proofs.Common.{◌≡◌, Bool, List, is_some, option_map, sym, ap}, specs.List.{find, list_any}}
use Rattle.hashlink_model.proofs.{Finds.{lookup_is, lookup_key_is}, SetElements.find-keys}
use Rattle.hashlink_core.proofs.AtKeyNode.{is_some-map}

module _ {T : Type 0} (es : List (T × Unit {0})) where
  -- the element that an entry has
  pub element-found : (test : T → Bool) → option_map (λ e. e.0) (lookup_entry test es)
      ≡ find test (keys_of es)
  element-found test = sym (lookup_key_is test es) ∙ find-keys test es

  pub member-entry : (test : T → Bool) → is_some (lookup_entry test es) ≡ list_any test (keys_of es)
  member-entry test =
      sym (is_some-map (λ e. e.1) (lookup_entry test es)) ∙ ap is_some (sym (lookup_is test es))
      ∙ is_some-lookup test es
