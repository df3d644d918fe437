-- What `to_front` and `to_back` lend: the value of the first key that passes, whose entry moved.
use Rattle.hashlink_map.proofs.Names
use Names.{◌≡◌, ◌≤◌, ℕ, Bool, Option, None, Some, sym, ap, is_some, length, IsEquivalence, IsEntries, IsKeyed}
use Names.{MovesNode, Keyed, entries_of, state_of, lookup, Node, Holds, place_of, place_number, value_at}
use Names.{with_value_at, moved-found, lent-moved, moved-value, lookup-unplaced, none_passes_from_place}
use Rattle.hashlink_core.specs.Keyed.{HoldsMatch}
use Rattle.hashlink_model.specs.{Entries.{IsKeyTest, moved_match}, Lookups.{KeepsLookups, UpdatesLent}}
use Rattle.hashlink_model.{specs.Steps.MovesMatchAndWrites, proofs.MovedLast.moves_none}
use Rattle.hashlink_model.proofs.Updates.{keeps-moved, updates-lent_moved}

module _ {K V S : Type 0} {eq : K → K → Bool} (laws : IsEquivalence eq) {test : K → Bool}
    (tells : IsKeyTest eq test) (old : Keyed K V S) (d : IsEntries eq (entries_of old)) (b : ℕ) where
  -- the clauses, with what is said of the lookups if the value is lent
  abbrev Clauses : Type 0 → Option V → Type 0
  Clauses U r = record {
    lends : Unit {0};
    updates : U;
    keeps : KeepsLookups eq test (entries_of old) (moved_match test (entries_of old) b);
    value : r ≡ lookup test (entries_of old);
    distinct : IsEntries eq (entries_of old);
  }

  -- no key passes, and nothing changes
  pub none-moved : place_of test (entries_of old) ≡ None
      → ((w : V) → MovesMatchAndWrites test (state_of old) (state_of old) b w) × Clauses (Unit {0}) None
  none-moved none = (
    λ w. moves_none test (state_of old) w (none_passes_from_place test (entries_of old) none) b,
    record {
      lends = tt;
      updates = tt;
      keeps = keeps-moved eq laws test tells (entries_of old) b d;
      value = sym (lookup-unplaced test (entries_of old) none);
      distinct = d;
    },
  )

  module _ {new : Keyed K V S} {n : Node} (found : HoldsMatch test old.nodes n) {p : ℕ} (same : p ≡ b)
      (le : p ≤ length old.nodes) (moved : MovesNode old new (place_number old.nodes (Some n)) p)
      (sound : IsKeyed eq new) where
    pub still-there : Holds new.nodes n
    still-there = (moved-found eq laws test tells old new n found b p same le moved sound).within

    pub moved-lent : {v : V} → value_at (entries_of new) (place_number new.nodes (Some n)) ≡ Some v
        → ((w : V) → MovesMatchAndWrites test (state_of old) (state_of (with_value_at new n w)) b w)
        × Clauses (UpdatesLent eq test (entries_of old) (moved_match test (entries_of old) b)) (Some v)
    moved-lent {v} there =
        let value : lookup test (entries_of old) ≡ Some v
        = moved-value eq laws test tells old new n found b p same le moved sound v there d in (
          lent-moved eq laws test tells old new n found b p same le moved sound,
          record {
            lends = tt;
            updates = updates-lent_moved eq laws test tells (entries_of old) b d (ap is_some value);
            keeps = keeps-moved eq laws test tells (entries_of old) b d;
            value = sym value;
            distinct = d;
          },
        )
