-- A change through an entry is a step at the place of its key.
use Rattle.hashlink_run.proofs.Names.{◌≡◌, ℕ, ◌-◌, Bool, List, length, slice_get, Option, None, Some, refl}
use Rattle.hashlink_run.proofs.Names.{sym, ap, ap₂, ◌∙◌, subst, true, false, lookup_entry, option_map}
use Rattle.hashlink_run.proofs.Names.{same_Some, place_of, MapState, EntryStep, Reply, OccupiedStep}
use Rattle.hashlink_run.proofs.Names.{VacantStep, EntrySteps}
use Rattle.std.{proofs.Common.{nat_lt, if◌then◌else◌}, specs.Prelude.{insert, remove}}
use Rattle.std.proofs.lemmas.Option.{none-some}
use Rattle.hashlink_model.specs.{Entries.moved_at, Entry.{EntryState, entry_of, value_at, TakesEntry}}
use Rattle.hashlink_model.{specs.MapState.{AddsEntry, MovesAt, RemovesAt}, proofs.Places.slice_get_here}
use Rattle.hashlink_model.proofs.Splits.{stands_from_place, lookup_entry-here}
use Rattle.hashlink_map.proofs.AtNode.{last-moved}

module _ {K V B S : Type 0} (eq : K → K → Bool) (Says : K → V → B → Type 0) {m : MapState K V S} {k : K}
    {e : EntryState K V S} (is : e ≡ entry_of eq m k) {step s : EntryStep V} (given : step ≡ s)
    (replies : List (Reply K V B)) (new : MapState K V S) where
  pub at_occupied : {j : ℕ} → e.place ≡ Some j → OccupiedStep Says e.map j e.key s replies new
      → EntrySteps eq Says m k step replies new
  at_occupied {j} at done =
      let place : place_of (eq k) m.entries ≡ Some j = sym (ap (λ e. e.place) is) ∙ at in
      rw (place, given) (subst (λ e. OccupiedStep Says e.map j e.key s replies new) is done)

  pub at_vacant : e.place ≡ None → VacantStep eq e.map e.key s replies new
      → EntrySteps eq Says m k step replies new
  at_vacant at done =
      let place : place_of (eq k) m.entries ≡ None = sym (ap (λ e. e.place) is) ∙ at in
      rw (place, given) (subst (λ e. VacantStep eq e.map e.key s replies new) is done)

-- an insert of w is an insert of v if w equals v
pub added : {K V S : Type 0} {eq : K → K → Bool} {old new : MapState K V S} {k : K} {w v : V} {b : ℕ} → w ≡ v
    → AddsEntry eq old new k w b → AddsEntry eq old new k v b
added {eq = eq} {old} {new} {k} {b = b} same adds = subst (λ v. AddsEntry eq old new k v b) same adds

-- ---- the pair that is read

module _ {K V : Type 0} where
  first_inserted : (es : List (K × V)) (e : K × V) (b : Bool)
      → slice_get (insert es (if b then 0 - 1 else 0) e) 0 ≡ Some e
  first_inserted es e true = refl
  first_inserted es e false = refl

  -- an entry that moves to the front is the first one
  moved_to_front : (es : List (K × V)) (j : ℕ) (e : K × V) → slice_get es j ≡ Some e
      → slice_get (moved_at es j 0) 0 ≡ Some e
  moved_to_front es j e at = rw at (first_inserted (remove es j) e (nat_lt j 0))

-- the pair that is read at the entry's place is the pair of its key
module _ {K V S : Type 0} (eq : K → K → Bool) {m : MapState K V S} {k : K} {e : EntryState K V S}
    (is : e ≡ entry_of eq m k) (old : MapState K V S) (j : ℕ) (same : e.map ≡ old)
    (at : e.place ≡ Some j) where
  stands : (x : K × V) × (slice_get old.entries j ≡ Some x) × (lookup_entry (eq k) m.entries ≡ Some x)
  stands =
      let map : m ≡ old = sym (ap (λ e. e.map) is) ∙ same in
      let place : place_of (eq k) old.entries ≡ Some j =
      ap (λ m. place_of (eq k) m.entries) (sym map) ∙ sym (ap (λ e. e.place) is) ∙ at in
      let s = stands_from_place (eq k) old.entries j place in (
        s.1,
        ap₂ slice_get s.3.is (sym s.4) ∙ slice_get_here s.0 s.1 s.2,
        ap (λ m. lookup_entry (eq k) m.entries) map ∙ ap (lookup_entry (eq k)) s.3.is
            ∙ lookup_entry-here (eq k) s.1 s.2 s.3.passes s.0 s.3.before,
      )

  pub there : slice_get old.entries j ≡ lookup_entry (eq k) m.entries
  there = stands.1 ∙ sym stands.2

  -- the same after it has moved to an end
  module _ (new : MapState K V S) (p : ℕ) where
    pub there_at_end : MovesAt old new j (length old.entries) → Some p ≡ Some (length old.entries - 1)
        → slice_get new.entries p ≡ slice_get old.entries j
    there_at_end moves end =
        ap₂ slice_get moves.entries (same_Some _ _ end) ∙ last-moved old.entries j stands.0 stands.1
        ∙ sym stands.1

    pub there_at_front : MovesAt old new j 0 → Some p ≡ Some 0
        → slice_get new.entries p ≡ slice_get old.entries j
    there_at_front moves front =
        ap₂ slice_get moves.entries (same_Some _ _ front) ∙ moved_to_front old.entries j stands.0 stands.1
        ∙ sym stands.1

-- a value that is removed leaves together with its key
pub taken : {K V S : Type 0} (old new : MapState K V S) (j : ℕ) (v : V) → value_at old.entries j ≡ Some v
    → RemovesAt old new j → (e : K × V) × TakesEntry old new j e × (v ≡ e.1)
taken {K} {V} old new j v value removes = by (slice_get old.entries j) refl value
  where
    by : (o : Option (K × V)) → slice_get old.entries j ≡ o → option_map (λ e. e.1) o ≡ Some v
        → (e : K × V) × TakesEntry old new j e × (v ≡ e.1)
    by None at value = absurd (none-some v value)
    by (Some e) at value = (e, record { answer = at; step = removes }, sym (same_Some e.1 v value))
