-- Lemmas for callers: a set's elements after a call. The comment over each lemma names the goal that it
-- closes.
use Rattle.std.proofs.Common.{◌≡◌, Bool, true, false, cond, [], ◌∷◌, ◌++◌, None, Some}
use Rattle.std.proofs.Common.{Result, Ok, Err, refl, ap, ◌∙◌, not, filter}
use Rattle.std.proofs.lemmas.List.{map-append}
use Rattle.std.proofs.lemmas.Map.Made.{is_some-lookup}
use Rattle.std.proofs.option.Match.{None-if_not_some}
use Rattle.std.specs.List.{list_any}
use Rattle.std.specs.Map.{keys_of}
use Rattle.std.specs.Prelude.{MatchResult}
use Rattle.hashlink_map.proofs.Inserting.{inserts_absent}
use Rattle.hashlink_map.proofs.Retained.{retained_where}
use Rattle.hashlink_model.proofs.SetElements.{keys-filter, set_inserts}
use Rattle.hashlink_model.specs.Retain.{RetainsInOrder}
use Rattle.hashlink_model.specs.Sets.{SetState, SetInserts, at_element, elements_of}

-- goal: the same for a set's elements
pub set_retained_where : {F T S : Type 0} (U : F → T → Bool → F → Type 0) (Holds : F → Type 0)
    (passes : T → Bool)
    → ((f : F) (t : T) (b : Bool) (g : F) → Holds f → U f t b g → (b ≡ passes t) × Holds g)
    → (f : F) → Holds f → (old new : SetState T S) (g : F) → RetainsInOrder (at_element U) f old new g
    → elements_of new ≡ filter passes (elements_of old)
set_retained_where U Holds passes call f h old new g r =
    ap keys_of (retained_where (at_element U) Holds (λ e. passes e.0)
    (λ f t v b w g h u. let c = call f t b g h u in (c.0, refl, c.1)) f h old new g r).entries
    ∙ keys-filter passes passes old.entries

module _ {T S : Type 0} (old new : SetState T S) where
  -- goal: the elements after an insert of a new one, and its result
  pub set_inserts_new : (eq : T → T → Bool) (t : T) → list_any (eq t) (elements_of old)
      ≡ false → (r : Result Bool T)
      → SetInserts eq old new t r
      → MatchResult r (λ b. (b ≡ true) × (elements_of new ≡ elements_of old ++ t ∷ []))
      (λ x. (x ≡ t) × (elements_of new ≡ elements_of old))
  set_inserts_new eq t none (Ok b) s =
      let e = set_inserts eq old new t b s in
      let new_one : b ≡ true = e.1 ∙ ap not none in
      let absent = None-if_not_some _ (is_some-lookup (eq t) old.entries ∙ none) in
      let adds = inserts_absent eq old new t tt absent (Ok (cond b None (Some tt))) s in
      (new_one, ap keys_of adds.1 ∙ map-append (λ e. e.0) old.entries ((t, tt) ∷ []))
  set_inserts_new eq t none (Err x) s = (ap (λ p. p.0) s.handed_back, ap keys_of s.grows.entries)
