-- The replies of a map to a step on an entry, with the given key k, and the state that it reaches.
use Rattle.std.specs.Prelude.{◌≡◌, ℕ, Bool, List, [], ◌∷◌, length, slice_get, None, Some, MatchOption, Result}
use Rattle.std.specs.{Map.lookup_entry, Result.result_map_both}
use Rattle.hashlink_model.specs.Entry.{InsertsValue, InsertsEntry, ReplacesEntry, ReplacesKey, TakesEntry}
use Rattle.hashlink_model.specs.{Entries.place_of, Entry.VacantInserts, MapState.{MapState, MovesAt}}
use Rattle.hashlink_run.specs.declared.commands.EntryStep.{EntryStep}
use Rattle.hashlink_run.specs.declared.commands.EntryStep.TheVariants as step
use Rattle.hashlink_run.specs.declared.replies.{Reply.Reply, Reply.TheVariants.{Value, Pair, Key, Seen}}
use Rattle.hashlink_run.specs.{CallReplies.reply_or_refused, Reads.{Replies, Reads}}

module _ {K V B S : Type 0} (Says : K → V → B → Type 0) where
  -- the entry at index j moves to index b, and is read
  abbrev pub MovesAndReadsAt : MapState K V S → ℕ → ℕ → List (Reply K V B) → MapState K V S → Type 0
  MovesAndReadsAt old j b replies new =
      MovesAt old new j b × Replies Says (slice_get old.entries j) replies

  -- a step if the key is at index j
  abbrev pub OccupiedStep : MapState K V S → ℕ → K → EntryStep V → List (Reply K V B)
      → MapState K V S → Type 0
  OccupiedStep old j k step.Get replies new = Reads Says old (slice_get old.entries j) replies new
  OccupiedStep old j k (step.OrInsert v) replies new = MovesAndReadsAt old j (length old.entries) replies new
  OccupiedStep old j k (step.Insert v) replies new =
      (w : V) × InsertsValue old new j v w × (replies ≡ Value (Some w) ∷ [])
  OccupiedStep old j k (step.InsertEntry v) replies new =
      (e : K × V) × InsertsEntry old new j k v e × (replies ≡ Pair (Some e) ∷ [])
  OccupiedStep old j k (step.ReplaceEntry v) replies new =
      (e : K × V) × ReplacesEntry old new j k v e × (replies ≡ Pair (Some e) ∷ [])
  OccupiedStep old j k step.ReplaceKey replies new =
      (stored : K) × ReplacesKey old new j k stored × (replies ≡ Key (Some stored) ∷ [])
  OccupiedStep old j k step.ToFront replies new = MovesAndReadsAt old j 0 replies new
  OccupiedStep old j k step.ToBack replies new = MovesAndReadsAt old j (length old.entries) replies new
  OccupiedStep old j k step.Remove replies new =
      (e : K × V) × TakesEntry old new j e × (replies ≡ Value (Some e.1) ∷ [])
  OccupiedStep old j k step.RemoveEntry replies new =
      (e : K × V) × TakesEntry old new j e × (replies ≡ Pair (Some e) ∷ [])

module _ {K V B S : Type 0} (eq : K → K → Bool) where
  -- an insert, with this reply if it succeeds
  abbrev pub InsertsAbsent : MapState K V S → K → V → Reply K V B → List (Reply K V B)
      → MapState K V S → Type 0
  InsertsAbsent old k v reply replies new =
      (answer : Result (Unit {0}) (K × V)) × VacantInserts eq old new k v answer
      × (replies ≡ reply_or_refused (result_map_both (λ _. reply) (λ pair. pair) answer) ∷ [])

  -- the key is absent, and nothing changes
  abbrev pub FindsNothing : MapState K V S → Reply K V B → List (Reply K V B) → MapState K V S → Type 0
  FindsNothing old nothing replies new = (new ≡ old) × (replies ≡ nothing ∷ [])

  -- a step if the key is absent
  abbrev pub VacantStep : MapState K V S → K → EntryStep V → List (Reply K V B) → MapState K V S → Type 0
  VacantStep old k step.Get replies new = FindsNothing old (Seen None) replies new
  VacantStep old k (step.OrInsert v) replies new = InsertsAbsent old k v (Seen None) replies new
  VacantStep old k (step.Insert v) replies new = InsertsAbsent old k v (Value None) replies new
  VacantStep old k (step.InsertEntry v) replies new = InsertsAbsent old k v (Pair None) replies new
  VacantStep old k (step.ReplaceEntry v) replies new = FindsNothing old (Pair None) replies new
  VacantStep old k step.ReplaceKey replies new = FindsNothing old (Key None) replies new
  VacantStep old k step.ToFront replies new = FindsNothing old (Seen None) replies new
  VacantStep old k step.ToBack replies new = FindsNothing old (Seen None) replies new
  VacantStep old k step.Remove replies new = FindsNothing old (Value None) replies new
  VacantStep old k step.RemoveEntry replies new = FindsNothing old (Pair None) replies new

  -- a step at the place of the key, or with an absent key
  abbrev pub EntrySteps : (K → V → B → Type 0) → MapState K V S → K → EntryStep V → List (Reply K V B)
      → MapState K V S → Type 0
  EntrySteps Says old k step replies new =
      MatchOption (place_of (eq k) old.entries) (VacantStep old k step replies new)
      (λ j. OccupiedStep Says old j k step replies new)

-- the step reads the pair of its key
abbrev pub ReadAtEntry : {K V S : Type 0} → (K → K → Bool) → MapState K V S → K → EntryStep V → K × V → Type 0
ReadAtEntry eq old k step.Get pair = lookup_entry (eq k) old.entries ≡ Some pair
ReadAtEntry eq old k (step.OrInsert v) pair = lookup_entry (eq k) old.entries ≡ Some pair
ReadAtEntry eq old k step.ToFront pair = lookup_entry (eq k) old.entries ≡ Some pair
ReadAtEntry eq old k step.ToBack pair = lookup_entry (eq k) old.entries ≡ Some pair
ReadAtEntry eq old k step pair = ⊥
