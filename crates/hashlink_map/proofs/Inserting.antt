-- The entries and the look-ups after an insert at a key. The comment over each lemma names the goal that it
-- closes.
use Rattle.std.proofs.Common.{◌≡◌, ℕ, Bool, [], ◌∷◌, ◌++◌, length, Option, None, Some, Result}
use Rattle.std.proofs.Common.{Ok, Err, refl, sym, subst, ◌∙◌}
use Rattle.std.proofs.lemmas.Option.{none-some}
use Rattle.std.specs.Cmp.{IsEquivalence}
use Rattle.std.specs.Map.{lookup}
use Rattle.std.specs.Prelude.{OnOk, MatchResult}
use Rattle.hashlink_map.proofs.Outcomes.{inserts_entries}
use Rattle.hashlink_map.specs.EntryLends.{PutsLast}
use Rattle.hashlink_model.proofs.Puts.{put_back_absent, put_back}
use Rattle.hashlink_model.proofs.Splits.{none_from_lookup}
use Rattle.hashlink_model.proofs.Updates.{updates-put}
use Rattle.hashlink_model.specs.Entries.{IsEntries, stored_key, without}
use Rattle.hashlink_model.specs.Entry.{EntryState, entry_of}
use Rattle.hashlink_model.specs.Lookups.{Updates, UpdatesLast}
use Rattle.hashlink_model.specs.MapState.{MapState, Inserts}

-- ---- each step as an equation of entries

module _ {K V S : Type 0} (eq : K → K → Bool) (old new : MapState K V S) (k : K) (v : V) where
  -- the result of inserting an absent key: the pair is the last entry, or is returned
  abbrev PutLast : Result (Option V) (K × V) → Type 0
  PutLast r =
      MatchResult r (λ w. (w ≡ None) × (new.entries ≡ old.entries ++ (k, v) ∷ []))
      (λ pair. (pair ≡ (k, v)) × (new.entries ≡ old.entries))

  -- goal: the entries after an insert of an absent key at the end, and its result
  pub inserts_absent : lookup (eq k) old.entries ≡ None → (r : Result (Option V) (K × V))
      → Inserts eq old new k v (length old.entries) r
      → PutLast r
  inserts_absent none (Ok None) s =
      (refl, s.adds.entries ∙ put_back_absent eq old.entries k v (none_from_lookup (eq k) old.entries none))
  inserts_absent none (Ok (Some w)) s = absurd (none-some w (sym none ∙ s.old_value))
  inserts_absent none (Err pair) s = (s.handed_back, s.grows.entries)

  -- goal: the entries after an insert at the end, whether the key was present or not, and its result
  pub inserts_back : (r : Result (Option V) (K × V)) → Inserts eq old new k v (length old.entries) r
      → MatchResult r (λ w. (w ≡ lookup (eq k) old.entries)
      × (new.entries ≡ without eq old.entries k ++ (stored_key eq old.entries k, v) ∷ []))
      (λ pair. (pair ≡ (k, v)) × (new.entries ≡ old.entries))
  inserts_back (Ok w) s =
      let e = inserts_entries eq old new k v (length old.entries) w s in
      (e.1, e.0 ∙ put_back eq old.entries k v)
  inserts_back (Err pair) s = (s.handed_back, s.grows.entries)

  -- goal: the look-ups after an insert that is not refused, or once what an entry lent was written, by the
  -- keys before it, as `c.entry.ensures.distinct` states them
  pub updates-inserts : IsEquivalence eq → IsEntries eq old.entries → (b : ℕ) (r : Result (Option V) (K × V))
      → Inserts eq old new k v b r
      → OnOk r (Updates eq old.entries new.entries k (Some v))
  updates-inserts laws d b (Ok w) s =
      subst (λ zs. Updates eq old.entries zs k (Some v)) (sym (inserts_entries eq old new k v b w s).0)
      (updates-put eq laws old.entries k v b d)
  updates-inserts laws d b (Err pair) s = tt

module _ {K V : Type 0} (eq : K → K → Bool) where
  -- goal: the look-ups once w was written through what an entry lent
  pub updates-entered : {S : Type 0} (old new : MapState K V S) (e : EntryState K V S) (k : K) (w : V)
      → IsEquivalence eq → IsEntries eq old.entries → e ≡ entry_of eq old k → PutsLast eq e.map new e.key w
      → Updates eq old.entries new.entries k (Some w)
  updates-entered old new e k w laws d is s =
      updates-inserts eq old new k w laws d (length old.entries) (Ok (lookup (eq k) old.entries))
      (subst (λ x. PutsLast eq x.map new x.key w) is s)

  -- goal: the look-ups once w was written through what `get_or_insert_with` of a map lent
  pub updates-got : {S : Type 0} (old new : MapState K V S) (k : K) (w : V) → UpdatesLast eq old.entries k
      → PutsLast eq old new k w
      → Updates eq old.entries new.entries k (Some w)
  updates-got old new k w lent s =
      let is = inserts_entries eq old new k w (length old.entries) (lookup (eq k) old.entries) s in
      subst (λ zs. Updates eq old.entries zs k (Some w)) (sym is.0) (lent w)
