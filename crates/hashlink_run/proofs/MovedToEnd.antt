-- A pair that moved to an end with its value unchanged: it is the pair at that end.
use Rattle.hashlink_run.proofs.Names.{◌≡◌, ℕ, Bool, List, [], ◌∷◌, length, Option, None, Some, refl, sym, ap}
use Rattle.hashlink_run.proofs.Names.{◌∙◌, subst, MatchOption, lookup, lookup_entry, option_map, lookup_is}
use Rattle.hashlink_run.proofs.Names.{none_from_lookup, first_of, MapState, Replies, Seen}
use Rattle.std.{specs.Cmp.IsEquivalence, proofs.lemmas.Map.Steps.set_value_same}
use Rattle.hashlink_model.specs.{Entries.{IsEntries, moved, stored_key, without}, MapState.Changes}
use Rattle.hashlink_model.{specs.Steps.{Moves, MovesAndWrites}, specs.Walk.last_of, proofs.Places.last_of-end}
use Rattle.hashlink_model.proofs.{Afterwards.{lookup-moved, moved-there}, Finds.lookup_key_is}
use Rattle.hashlink_model.proofs.{Puts.{put_back, put_front}, Splits.lookup_entry-none}

module _ {K V : Type 0} (eq : K → K → Bool) (es : List (K × V)) (k : K) (v : V)
    (found : lookup (eq k) es ≡ Some v) where
  stored_pair : (e : Option (K × V)) → lookup_entry (eq k) es ≡ e
      → lookup_entry (eq k) es ≡ Some (stored_key eq es k, v)
  stored_pair None e = absurd (let none = lookup_is (eq k) es ∙ ap (option_map (λ p. p.1)) e in cc)
  stored_pair (Some p) e =
      let value = lookup_is (eq k) es ∙ ap (option_map (λ p. p.1)) e in
      let key = lookup_key_is (eq k) es ∙ ap (option_map (λ p. p.0)) e in
      let same : v ≡ p.1 = cc in
      e ∙ rw (key, same) refl

  first_of-moved : first_of (moved eq es k 0) ≡ lookup_entry (eq k) es
  first_of-moved =
      ap first_of (moved-there eq es k 0 v found ∙ put_front eq es k v)
      ∙ sym (stored_pair (lookup_entry (eq k) es) refl)

  last_of-moved : last_of (moved eq es k (length es)) ≡ lookup_entry (eq k) es
  last_of-moved =
      ap last_of (moved-there eq es k (length es) v found ∙ put_back eq es k v)
      ∙ last_of-end (without eq es k) (stored_key eq es k, v)
      ∙ sym (stored_pair (lookup_entry (eq k) es) refl)

module _ {K V S : Type 0} {eq : K → K → Bool} (laws : IsEquivalence eq) {old new : MapState K V S} (k : K)
    {b : ℕ} {v : V} (distinct : IsEntries eq old.entries) (found : lookup (eq k) old.entries ≡ Some v)
    (s : MovesAndWrites eq old new k b v) where
  unwritten : Changes old new (moved eq old.entries k b) 6
  unwritten =
      let here : lookup (eq k) s.between.entries ≡ Some v =
      ap (lookup (eq k)) s.moves.entries ∙ lookup-moved eq laws k old.entries k b distinct ∙ found in
      let same : new ≡ s.between =
      s.writes ∙ ap (λ es. record s.between { entries = es })
      (set_value_same (eq k) s.between.entries v here) in
      subst (λ m. Changes old m (moved eq old.entries k b) 6) (sym same) s.moves

  pub moves_unwritten : Moves eq old new k b (lookup (eq k) old.entries)
  moves_unwritten = record {
    answer = refl;
    step = subst (λ r. MatchOption r (new ≡ old) (λ _. Changes old new (moved eq old.entries k b) 6))
        (sym found) unwritten;
  }

  pub first_of-new : b ≡ 0 → first_of new.entries ≡ lookup_entry (eq k) old.entries
  first_of-new end =
      ap first_of (unwritten.entries ∙ ap (moved eq old.entries k) end)
      ∙ first_of-moved eq old.entries k v found

  pub last_of-new : b ≡ length old.entries → last_of new.entries ≡ lookup_entry (eq k) old.entries
  last_of-new end =
      ap last_of (unwritten.entries ∙ ap (moved eq old.entries k) end)
      ∙ last_of-moved eq old.entries k v found

-- an absent key does not move, and nothing is read
pub unmoved : {K V B S : Type 0} (eq : K → K → Bool) (Says : K → V → B → Type 0) (old new : MapState K V S)
    (k : K) (b : ℕ) → lookup (eq k) old.entries ≡ None → new ≡ old
    → Moves eq old new k b (lookup (eq k) old.entries)
    × Replies Says (lookup_entry (eq k) old.entries) (Seen None ∷ [])
unmoved eq Says old new k b none same = (
  record { answer = refl; step = rw none same },
  rw (lookup_entry-none (eq k) old.entries (none_from_lookup (eq k) old.entries none)) (None, tt, refl),
)
