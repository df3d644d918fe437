-- A step at the place of a key, as the step of a map at the key.
use Rattle.hashlink_core.proofs.Names.{◌≡◌, ℕ, Bool, List, [], ◌∷◌, length, None, Some, refl, sym, ap, subst}
use Rattle.hashlink_core.proofs.Names.{◌∙◌, arith, set_value, NonePasses, place_of, RemovesKey, WritesEntry}
use Rattle.hashlink_core.proofs.Steps.{lookup-place, lookup_entry-unplaced, removes_match}
use Rattle.hashlink_core.proofs.Names.{with_value_of, moved_at-put, set_value_at-place}
use Rattle.hashlink_core.proofs.Steps.{none_passes_from_place}
use Rattle.hashlink_model.{proofs.Puts.put_at_its_place, specs.Entry.{InsertsValue, ReplacesValue}}
use Rattle.hashlink_model.{specs.Entry.TakesEntry, specs.MapState.{MapState, Changes, PutsEntry, with_value}}

module _ {K V S : Type 0} (eq : K → K → Bool) (old new : MapState K V S) (k : K) (j : ℕ)
    (p : place_of (eq k) old.entries ≡ Some j) where
  pub stays-key : (v w : V) → ReplacesValue old new j v w → PutsEntry eq old new k v j w
  stays-key v w s = record {
    old_value = lookup-place (eq k) old.entries j p ∙ s.answer;
    puts = record {
      entries = s.step.entries ∙ set_value_at-place (eq k) old.entries j v p
          ∙ sym (put_at_its_place eq old.entries k v j p);
      spare = s.step.spare;
      room = s.step.room;
      link_writes = record {
        grows = s.step.link_writes.grows;
        bound = omega (arith, s.step.link_writes.bound);
      };
      hasher = s.step.hasher;
    };
  }

  pub inserted-key : (v w : V) → InsertsValue old new j v w → PutsEntry eq old new k v (length old.entries) w
  inserted-key v w s = record {
    old_value = lookup-place (eq k) old.entries j p ∙ s.answer;
    puts = subst (λ es. Changes old new es 6)
        (moved_at-put eq old.entries k j p v (length old.entries)) s.step;
  }

  pub replaced-key : (v w : V) → ReplacesValue old new j v w → WritesEntry eq old new k v w
  replaced-key v w s = record {
    old_value = lookup-place (eq k) old.entries j p ∙ s.answer;
    writes = subst (λ es. Changes old new es 0) (set_value_at-place (eq k) old.entries j v p) s.step;
  }

  pub written-key : (w : V) → new ≡ with_value old j w → new ≡ with_value_of eq old k w
  written-key w s = s ∙ ap (λ es. record old { entries = es }) (set_value_at-place (eq k) old.entries j w p)

  pub taken-key : (e : K × V) → TakesEntry old new j e → RemovesKey eq old new k (Some e)
  taken-key e s = removes_match (eq k) old new j p e s.answer s.step

set_value-none : {K V : Type 0} (test : K → Bool) (es : List (K × V)) (w : V) → NonePasses test es
    → set_value test es w ≡ es
set_value-none test [] w h = refl
set_value-none test (e ∷ es) w h = rw h.0 (ap (λ r. e ∷ r) (set_value-none test es w h.1))

module _ {K V S : Type 0} (eq : K → K → Bool) (m : MapState K V S) (k : K)
    (p : place_of (eq k) m.entries ≡ None) where
  pub absent-taken : RemovesKey eq m m k None
  absent-taken = record { answer = sym (lookup_entry-unplaced (eq k) m.entries p); step = refl }

  -- a write at an absent key changes nothing
  pub absent-written : (w : V) → m ≡ with_value_of eq m k w
  absent-written w =
      ap (λ es. record m { entries = es })
      (sym (set_value-none (eq k) m.entries w (none_passes_from_place (eq k) m.entries p)))
