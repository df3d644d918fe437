-- The calls of a closure at pairs, compared with those of the closure that it calls at each element.
use Rattle.hashlink_set.proofs.Names.{◌≡◌, Bool, true, false, cond, List, [], ◌∷◌, Option, None, Some, ◌∙◌}
use Rattle.hashlink_set.proofs.Names.{ap, subst, sym, refl, is_some, is_some-lookup, option_map, keys_of}
use Rattle.hashlink_set.proofs.{Names.{is_member, RetainsInOrder, SetState}, Lookups.element-found}
use Rattle.hashlink_set.specs.Called.{HasAnswered, SetUpdatesKept}
use Rattle.std.proofs.option.Match.{None-if_not_some}
use Rattle.std.specs.{List.FoldsTo, Map.{lookup, lookup_entry}, Prelude.MatchOption}
use Rattle.std.specs.Map.Calls.{CallableOnEachPair, SomeCallAtPair}
use Rattle.hashlink_model.specs.{Lookups.{AsAnswered, UpdatesKept}, Retain.KeepsInOrder}

module _ {C F T : Type 0} (see : C → F) (P : C → T → Unit {0} → Bool → Unit {0} → C → Type 0)
    (Q : F → T → Unit {0} → Bool → Unit {0} → F → Type 0)
    (says : (c : C) (t : T) (b : Bool) (d : C) → P c t tt b tt d → Q (see c) t tt b tt (see d)) where
  calls_seen : (c : C) (es kept : List (T × Unit {0})) (d : C) → KeepsInOrder P c es kept d
      → KeepsInOrder Q (see c) es kept (see d)
  calls_seen c [] kept d r = (r.0, ap see r.1)
  calls_seen c (e ∷ es) kept d r =
      (r.0, r.1, see r.2, r.3, says c e.0 r.0 r.2 r.4, calls_seen r.2 es r.3 d r.5, r.6)

  pub retains_seen : {S : Type 0} (old new : SetState T S) (c d : C) → RetainsInOrder P c old new d
      → RetainsInOrder Q (see c) old new (see d)
  retains_seen old new c d r =
      record { kept = r.kept; calls = calls_seen c old.entries r.kept d r.calls; keeps = r.keeps }

  folds_seen : (c : C) (es : List (T × Unit {0})) (d : C) → FoldsTo (SomeCallAtPair P) c es d
      → FoldsTo (SomeCallAtPair Q) (see c) es (see d)
  folds_seen c [] d h = ap see h
  folds_seen c (e ∷ es) d h =
      let step = h.1 in
      (see h.0, (step.0, step.1, says c e.0 step.0 h.0 step.2), folds_seen h.0 es d h.2)

  pub callable_seen : (may : C → T → Unit {0} → Type 0) (takes : F → T → Unit {0} → Type 0)
      → ((c : C) (t : T) → takes (see c) t tt → may c t tt)
      → (c : C) (es : List (T × Unit {0})) → CallableOnEachPair Q takes (see c) es
      → CallableOnEachPair P may c es
  callable_seen may takes serves c es h = record {
    at = λ before after d t v e calls. serves d t
        (h.at before after (see d) t v e (folds_seen c before d calls));
  }

-- what a look-up of an element finds after a retain of the pairs
module _ {C F T : Type 0} (see : C → F) (P : C → T → Unit {0} → Bool → Unit {0} → C → Type 0)
    (U : F → T → Bool → F → Type 0)
    (says : (c : C) (t : T) (b : Bool) (d : C) → P c t tt b tt d → U (see c) t b (see d)) where
  as_answer : (b : Bool) (w : Unit {0}) → is_some (cond b (Some w) None) ≡ b
  as_answer true w = refl
  as_answer false w = refl

  element_seen : (o : Option (T × Unit {0})) (r : Option (Unit {0}))
      → MatchOption o (r ≡ None) (AsAnswered P r)
      → MatchOption (option_map (λ e. e.0) o) (is_some r ≡ false) (HasAnswered U (is_some r))
  element_seen None r n = ap is_some n
  element_seen (Some e) r a =
      let b : is_some r ≡ a.1 = ap is_some a.5 ∙ as_answer a.1 a.2 in
      (see a.0, see a.3, subst (λ c. U (see a.0) e.0 c (see a.3)) (sym b) (says a.0 e.0 a.1 a.3 a.4))

  -- goal: the look-ups after a retain
  pub updates_seen : (eq : T → T → Bool) (old new : List (T × Unit {0})) → UpdatesKept P eq old new
      → SetUpdatesKept U eq (keys_of old) (keys_of new)
  updates_seen eq old new u = (
    λ q.
        let seen = element_seen (lookup_entry (eq q) old) (lookup (eq q) new) (u.0 q) in
        subst (λ o. MatchOption o (is_member eq (keys_of new) q ≡ false)
        (HasAnswered U (is_member eq (keys_of new) q))) (element-found old (eq q))
        (subst (λ b. MatchOption (option_map (λ e. e.0) (lookup_entry (eq q) old)) (b ≡ false)
        (HasAnswered U b)) (is_some-lookup (eq q) new) seen),
    λ test none.
        sym (is_some-lookup test new)
        ∙ ap is_some (u.1 test (None-if_not_some _ (is_some-lookup test old ∙ none))),
  )

-- if no call changes a part of a closure, such as the reference that it holds, then all calls together do not
module _ {C N T : Type 0} (name : C → N) (P : C → T → Unit {0} → Bool → Unit {0} → C → Type 0)
    (keeps : (c : C) (t : T) (b : Bool) (d : C) → P c t tt b tt d → name d ≡ name c) where
  pub name_kept : (c : C) (es kept : List (T × Unit {0})) (d : C) → KeepsInOrder P c es kept d
      → name c ≡ name d
  name_kept c [] kept d r = sym (ap name r.1)
  name_kept c (e ∷ es) kept d r = sym (keeps c e.0 r.0 r.2 r.4) ∙ name_kept r.2 es r.3 d r.5

-- what holds for the value behind a reference holds for the variable that the reference borrows
pub back : {V N : Type 0} (P : V → Type 0) {x v : V} {a b : N} → (a ≡ b → x ≡ v) → a ≡ b → P v → P x
back P is name p = subst P (sym (is name)) p
