-- Pops of the first and of the last entry, and cursors and entries of a map's state.
use Rattle.hashlink_model.proofs.Names.{ap₂, option_to_list, cons_option, ◌≡◌, ℕ, ◌+◌, ◌≤◌, Bool, List, []}
use Rattle.hashlink_model.proofs.Names.{◌∷◌, ◌++◌, length, None, Some, Err, refl, sym, ap, ◌∙◌, arith}
use Rattle.hashlink_model.proofs.Names.{IsEquivalence, lookup, IsEntries, place_of, MapState, PopsFront}
use Rattle.hashlink_model.proofs.{Names.{PopsBack, place_kept}, Walks.{first_splits, last_splits}}
use Rattle.hashlink_model.{specs.Cursor.{CursorState, CursorInserts}, proofs.Cursors.place_kept-same}

module _ {K V : Type 0} (eq : K → K → Bool) (laws : IsEquivalence eq) where
  pub vacant : (k : K) (es : List (K × V)) → place_of (eq k) es ≡ None → lookup (eq k) es ≡ None
  vacant k [] p = refl
  vacant k (e ∷ es) p = grind (arith, vacant k es)

  pub absent_is_vacant : (k : K) (es : List (K × V)) → lookup (eq k) es ≡ None → place_of (eq k) es ≡ None
  absent_is_vacant k [] l = refl
  absent_is_vacant k (e ∷ es) l = grind (arith, absent_is_vacant k es)

  -- an insert of a cursor that is refused leaves the entries and the cursor
  pub cursor_refused : {S : Type 0} (old new : CursorState K V S) (k : K) (v : V) (b : ℕ) (pair : K × V)
      → IsEntries eq old.map.entries → old.place ≤ length old.map.entries
      → CursorInserts eq old new k v b (Err pair)
      → (new.map.entries ≡ old.map.entries) × (new.place ≡ old.place)
  cursor_refused old new k v b pair d l s = (
    s.map.grows.entries,
    s.place ∙ ap (λ es. place_kept eq old.map.entries es old.place) s.map.grows.entries
        ∙ place_kept-same eq laws old.map.entries old.place d l,
  )

module _ {K V S : Type 0} (old new : MapState K V S) (e : K × V) where
  pub pops_front : PopsFront old new (Some e) → (old.entries ≡ e ∷ new.entries) × (new.spare ≡ old.spare + 1)
  pops_front s =
      (sym (first_splits old.entries) ∙ ap₂ cons_option (sym s.answer) (sym s.step.entries), s.step.spare)

  pub pops_back : PopsBack old new (Some e) → (old.entries ≡ new.entries ++ e ∷ [])
      × (new.spare ≡ old.spare + 1)
  pops_back s = (
    sym (last_splits old.entries) ∙ ap₂ (λ es o. es ++ option_to_list o) (sym s.step.entries) (sym s.answer),
    s.step.spare,
  )

pub ruleset pops = (vacant, absent_is_vacant, pops_back, cursor_refused)
