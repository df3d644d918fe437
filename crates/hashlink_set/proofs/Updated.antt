-- What a look-up of an element finds after a call, from the map's clauses.
use Rattle.hashlink_set.proofs.Names.{◌≡◌, ℕ, Bool, true, false, cond, List, length, Option, None, Some}
use Rattle.hashlink_set.proofs.Names.{Result, Ok, Err, OnOk, is_some, refl, sym, ap, subst, ◌∙◌}
use Rattle.hashlink_set.proofs.Names.{IsEquivalence, is_member, keys_of, set_replaces, SetReplaces, SetState}
use Rattle.hashlink_set.proofs.{Names.elements_of, Stored.is_some-find}
use Rattle.std.specs.Map.{KeepsOthers}
use Rattle.hashlink_map.proofs.EntryUpdates.{keeps-key}
use Rattle.hashlink_model.specs.{Entries.{IsEntries, IsKeyTest, moved_match}, Steps.MovesMatch}
use Rattle.hashlink_model.specs.Lookups.{KeepsLookups, SetKeepsLookups, SetUpdates, Updates}
use Rattle.hashlink_model.proofs.{Members.is_member-equal, SetUpdates.{set_keeps, set_updates}}
use Rattle.hashlink_model.proofs.Updates.{keeps-moved, updates-put}

module _ {T S : Type 0} (eq : T → T → Bool) (laws : IsEquivalence eq) (test : T → Bool)
    (tells : IsKeyTest eq test) (old new : SetState T S) where
  same_others : (es : List (T × Unit {0})) → KeepsOthers eq test es es
  unfolding KeepsOthers
  same_others es = λ other _ _. refl

  -- goal: the look-ups if nothing moved
  pub keeps_same : new ≡ old → SetKeepsLookups eq test (elements_of old) (elements_of new)
  keeps_same is =
      let es = old.entries in
      let same : KeepsLookups eq test es es = (λ q. refl, refl, same_others es) in
      subst (λ (m : SetState T S). SetKeepsLookups eq test (elements_of old) (elements_of m)) (sym is)
      (set_keeps eq test es es same)

  -- goal: the look-ups after a move
  pub keeps_moved : (b : ℕ) (r : Option (Unit {0})) → IsEntries eq old.entries → MovesMatch test old new b r
      → SetKeepsLookups eq test (elements_of old) (elements_of new)
  keeps_moved b None d s = keeps_same s.step
  keeps_moved b (Some u) d s =
      let es = old.entries in
      subst (λ zs. SetKeepsLookups eq test (elements_of old) (keys_of zs)) (sym s.step.entries)
      (set_keeps eq test es (moved_match test es b) (keeps-moved eq laws test tells es b d))

module _ {T S : Type 0} (eq : T → T → Bool) (laws : IsEquivalence eq) (old new : SetState T S) (t : T) where
  abbrev Finds : Type 0
  Finds = SetUpdates eq (elements_of old) (elements_of new) t true

  -- an equal element was present, and every look-up is unchanged
  finds_same : is_member eq (elements_of old) t ≡ true
      → SetKeepsLookups eq (eq t) (elements_of old) (elements_of new) → Finds
  finds_same there k =
      (λ q. k.0 q ∙ by q (eq t q) refl, k.1 ∙ there, λ q n. k.0 q, k.2)
    where
      by : (q : T) (b : Bool) → eq t q ≡ b
          → is_member eq (elements_of old) q ≡ cond b true (is_member eq (elements_of old) q)
      by q true e = sym (is_member-equal eq laws (elements_of old) t q e) ∙ there
      by q false e = refl

  -- goal: the look-ups after a replace
  pub updates_replaced : IsEntries eq old.entries → (r : Result (Option T) T) → SetReplaces eq old new t r
      → OnOk r Finds
  updates_replaced d (Ok None) s =
      set_updates eq (eq t) old.entries new.entries (Some tt)
      (subst (λ es. Updates eq old.entries es t (Some tt)) (sym s.adds.entries)
      (updates-put eq laws old.entries t tt (length old.entries) d))
  updates_replaced d (Ok (Some x)) s =
      finds_same
      (sym (is_some-find eq t (elements_of old)) ∙ ap is_some (sym (set_replaces eq old new t (Some x) s).1))
      (set_keeps eq (eq t) old.entries new.entries
      (keeps-key eq laws old new t s.place s.there x s.swaps))
  updates_replaced d (Err x) s = tt
