-- What a step on an entry leaves.
use Rattle.hashlink_run.proofs.Names.{◌≡◌, ℕ, zero, suc, ◌+◌, ◌≤◌, Bool, false, List, [], ◌∷◌, length, refl}
use Rattle.hashlink_run.proofs.Names.{Option, None, Some, Result, Ok, Err, ap, ◌∙◌, arith, MatchOption}
use Rattle.hashlink_run.proofs.Names.{MatchResult, place_of, MapState, node_count, KeepsNodes, kept-inserts}
use Rattle.hashlink_run.proofs.Names.{EntryStep, Reply, is_refused, OccupiedStep, VacantStep, EntrySteps}
use Rattle.std.specs.Result.{result_map_both}
use Rattle.hashlink_model.proofs.Occupied.{length-moved_at, length-insert_value, length-insert_entry}
use Rattle.hashlink_model.specs.{Entries.set_key_at, Entry.VacantInserts, MapState.{Changes, Removes}}
use Rattle.hashlink_model.proofs.{KeptNodes.kept-changes, NodeCounts.node_count-removes}
use Rattle.hashlink_model.proofs.Occupied.{length-replace_entry}
use Rattle.hashlink_run.specs.declared.commands.EntryStep.TheVariants as step
use Rattle.hashlink_run.specs.CallReplies.{reply_or_refused}

length_set_key : {K V : Type 0} (es : List (K × V)) (j : ℕ) (k : K) → length (set_key_at es j k) ≡ length es
length_set_key [] j k = refl
length_set_key (e ∷ es) zero k = refl
length_set_key (e ∷ es) (suc j) k = ap suc (length_set_key es j k)

pub kept_unchanged : {K V S : Type 0} (old new : MapState K V S) → new ≡ old → KeepsNodes old new
kept_unchanged old new s = let same = ap node_count s in omega arith

module _ {K V B S : Type 0} (Says : K → V → B → Type 0) (old new : MapState K V S)
    (replies : List (Reply K V B)) (k : K) where
  -- every node is kept, there is at most one entry more, and no pair is refused as long as a node is free
  pub record LeavesEntry : Type 0 where
    pub kept : KeepsNodes old new
    pub few : length new.entries ≤ length old.entries + 1
    pub taken : 1 ≤ old.spare → is_refused replies ≡ false

  unchanged : new ≡ old → is_refused replies ≡ false → LeavesEntry
  unchanged s not_back =
      let same = ap (λ m. length m.entries) s in
      record { kept = kept_unchanged old new s; few = omega arith; taken = λ _. not_back }

  changed : (es : List (K × V)) (most : ℕ) → Changes old new es most → length es ≡ length old.entries
      → is_refused replies ≡ false → LeavesEntry
  changed es most s l not_back =
      let same = ap length s.entries in
      record { kept = kept-changes old new es most s l; few = omega arith; taken = λ _. not_back }

  removed : (es : List (K × V)) → Removes old new es → is_refused replies ≡ false → LeavesEntry
  removed es s not_back =
      let nodes = node_count-removes old new es s in
      let same = ap length s.entries in
      let fewer = s.fewer in
      record { kept = omega arith; few = omega arith; taken = λ _. not_back }

  occupied-leaves : (j : ℕ) (step : EntryStep V) → OccupiedStep Says old j k step replies new → LeavesEntry
  occupied-leaves j step.Get s = unchanged s.0 (ap is_refused s.1.2)
  occupied-leaves j (step.OrInsert v) s =
      changed _ 6 s.0 (length-moved_at old.entries j (length old.entries)) (ap is_refused s.1.2)
  occupied-leaves j step.ToBack s =
      changed _ 6 s.0 (length-moved_at old.entries j (length old.entries)) (ap is_refused s.1.2)
  occupied-leaves j step.ToFront s = changed _ 6 s.0 (length-moved_at old.entries j 0) (ap is_refused s.1.2)
  occupied-leaves j (step.Insert v) s =
      changed _ 6 s.1.step (length-insert_value old.entries j v) (ap is_refused s.2)
  occupied-leaves j (step.InsertEntry v) s =
      changed _ 6 s.1.step (length-insert_entry old.entries j k v) (ap is_refused s.2)
  occupied-leaves j (step.ReplaceEntry v) s =
      changed _ 0 s.1.step (length-replace_entry old.entries j k v) (ap is_refused s.2)
  occupied-leaves j step.ReplaceKey s =
      changed _ 0 s.1.step (length_set_key old.entries j k) (ap is_refused s.2)
  occupied-leaves j step s = removed _ s.1.step (ap is_refused s.2)

  module _ (eq : K → K → Bool) where
    -- an insert that succeeded has a reply that refuses no pair
    abbrev IsTaken : Result (Unit {0}) (K × V) → Type 0
    IsTaken r = MatchResult r (λ done. is_refused replies ≡ false) (λ pair. Unit {0})

    by_reply : (reply : Reply K V B) (r : Result (Unit {0}) (K × V)) → is_refused (reply ∷ []) ≡ false
        → replies ≡ reply_or_refused (result_map_both (λ _. reply) (λ pair. pair) r) ∷ [] → IsTaken r
    by_reply reply (Ok done) not_back is = ap is_refused is ∙ not_back
    by_reply reply (Err pair) not_back is = tt

    vacant : (v : V) (r : Result (Unit {0}) (K × V)) → VacantInserts eq old new k v r → IsTaken r
        → LeavesEntry
    vacant v (Ok done) s not_back =
        let same = ap length s.adds.entries in
        let more = s.adds.more in
        record {
          kept = kept-inserts old new eq k v (length old.entries) (Ok None) s;
          few = omega arith;
          taken = λ _. not_back;
        }
    vacant v (Err pair) s not_back =
        let same = ap length s.grows.entries in
        let none = s.may_refuse.no_spare in
        record {
          kept = kept-inserts old new eq k v (length old.entries) (Err pair) s;
          few = omega arith;
          taken = λ some. absurd (omega arith);
        }

    vacant-leaves : (step : EntryStep V) → VacantStep eq old k step replies new → LeavesEntry
    vacant-leaves (step.OrInsert v) s = vacant v s.0 s.1 (by_reply _ s.0 refl s.2)
    vacant-leaves (step.Insert v) s = vacant v s.0 s.1 (by_reply _ s.0 refl s.2)
    vacant-leaves (step.InsertEntry v) s = vacant v s.0 s.1 (by_reply _ s.0 refl s.2)
    vacant-leaves step s = unchanged s.0 (ap is_refused s.1)

    pub entry-leaves : (step : EntryStep V) → EntrySteps eq Says old k step replies new → LeavesEntry
    entry-leaves step s = by (place_of (eq k) old.entries) s
      where
        by : (o : Option ℕ)
            → MatchOption o (VacantStep eq old k step replies new)
            (λ j. OccupiedStep Says old j k step replies new)
            → LeavesEntry
        by None s = vacant-leaves step s
        by (Some j) s = occupied-leaves j step s
