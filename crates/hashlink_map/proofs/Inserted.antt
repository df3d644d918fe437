-- What an insert and a replace leave, clause by clause.
use Rattle.hashlink_map.proofs.Names
use Names.{◌≡◌, Bool, Option, IsEquivalence, IfOk, IsOk, IsSome, OnOk, Result, lookup, put, place_or_end}
use Names.{Keyed, entries_of, state_of, IsEntries, IsKeyed, IsPlace, Node, place_number, Inserts, Replaces}
use Names.{Some}
use Rattle.hashlink_core.{proofs.Keeping.keeps-place, specs.Steps.{KeepsKeys, KeepsPlace}}
use Rattle.hashlink_model.{proofs.Updates.updates-inserted, specs.Lookups.Updates}
use Rattle.hashlink_map.proofs.Outcomes.{inserts_outcome, replaces_outcome}

module _ {K V S : Type 0} {eq : K → K → Bool} (laws : IsEquivalence eq) {before after : Keyed K V S}
    (was_sound : IsKeyed eq before) (sound : IsKeyed eq after) (k : K) (v : V)
    (r : Result (Option V) (K × V)) where
  -- directly before a place
  pub inserted : (p : Option Node)
      → Inserts eq (state_of before) (state_of after) k v (place_number before.nodes p) r
      → KeepsKeys before after
      → record {
        inserts : Inserts eq (state_of before) (state_of after) k v (place_number before.nodes p) r;
        updates : OnOk r (Updates eq (entries_of before) (entries_of after) k (Some v));
        keeps : (q : Option Node) → IsPlace before.nodes q → KeepsPlace eq before after q;
        distinct : IsEntries eq (entries_of after);
      }
  inserted p s kept = record {
    inserts = s;
    updates = updates-inserted eq laws r _ _ k v _ was_sound.distinct (inserts_outcome _ _ _ _ _ _ _ s).0;
    keeps = keeps-place before after laws sound kept;
    distinct = sound.distinct;
  }

  pub replaced : Replaces eq (state_of before) (state_of after) k v r
      → record {
        replaces : Replaces eq (state_of before) (state_of after) k v r;
        entries : OnOk r (entries_of after
            ≡ put eq (entries_of before) k v (place_or_end eq (entries_of before) k));
        updates : OnOk r (Updates eq (entries_of before) (entries_of after) k (Some v));
        old : IfOk r (λ w. w ≡ lookup (eq k) (entries_of before));
        there : IsSome (lookup (eq k) (entries_of before)) → IsOk r;
        distinct : IsEntries eq (entries_of after);
      }
  replaced s =
      let outcome = replaces_outcome _ _ _ _ _ _ s in
      record {
        replaces = s;
        entries = outcome.0;
        updates = updates-inserted eq laws r _ _ k v _ was_sound.distinct outcome.0;
        old = outcome.1;
        there = outcome.2;
        distinct = sound.distinct;
      }
