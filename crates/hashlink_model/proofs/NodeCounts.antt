-- Consequences of the steps between two states of a map.
use Rattle.hashlink_model.proofs.Names.{◌≡◌, ℕ, sym, List, length, Bool, Option, None, Some, Result, Ok, Err}
use Rattle.hashlink_model.proofs.Names.{ap, ◌∙◌, arith, set_value, length-set_value, put, moved, MapState}
use Rattle.hashlink_model.proofs.Names.{node_count, Changes, Inserts, KeepsOnly, Moves, MovesMatch}
use Rattle.hashlink_model.specs.{MapState.{HasRoom, Removes, PutsEntry}, Steps.{WritesEntry, Shrinks}}
use Rattle.hashlink_model.proofs.Afterwards.{length-put_there, length-moved, moved-absent, length-moved_match}
use Rattle.hashlink_model.proofs.Afterwards.{lookup-moved, IsEntries-moved}
use Rattle.hashlink_model.proofs.{Names.keys-set_value, Puts.lookup_entry-set_value_other}
use Rattle.std.proofs.lemmas.Map.{lookup-set_value}

module _ {K V S : Type 0} (old new : MapState K V S) where
  pub node_count-removes : (es : List (K × V)) → Removes old new es → node_count new ≡ node_count old
  node_count-removes es s = omega (arith, ap length s.entries)

  pub node_count-changes : (es : List (K × V)) (most : ℕ) → Changes old new es most → length es
      ≡ length old.entries → node_count new ≡ node_count old
  node_count-changes es most s l = omega (arith, ap length s.entries)

  pub node_count-shrinks : {E : Type 0} (r : Result (Unit {0}) E) → Shrinks old new r → node_count new
      ≡ length old.entries
  node_count-shrinks r s = omega (arith, ap length s.entries)

-- ---- two steps that only remove entries are together such a step, and a removal is one

module _ {K V S : Type 0} where
  pub removes_keeps : (old new : MapState K V S) (es : List (K × V)) → Removes old new es
      → KeepsOnly old new es
  removes_keeps old new es s = record {
    entries = s.entries;
    no_more = omega arith;
    spare = omega arith;
    room = s.room;
    link_writes = record { grows = omega arith; bound = omega arith };
    hasher = s.hasher;
  }

  pub keeps_twice : (a b c : MapState K V S) (es fs : List (K × V)) → KeepsOnly a b es → KeepsOnly b c fs
      → KeepsOnly a c fs
  keeps_twice a b c es fs s t =
      let same = ap length s.entries in
      record {
        entries = t.entries;
        no_more = omega arith;
        spare = omega arith;
        room = cc;
        link_writes = record { grows = omega arith; bound = omega arith };
        hasher = cc;
      }

-- ---- a move by a test

module _ {K V S : Type 0} (old new : MapState K V S) (test : K → Bool) (b : ℕ) where
  pub moves_match_length : (r : Option V) → MovesMatch test old new b r → length new.entries
      ≡ length old.entries
  moves_match_length None s = ap (λ m. length m.entries) s.step
  moves_match_length (Some w) s = ap length s.step.entries ∙ length-moved_match test old.entries b

-- ---- an insert at any place

module _ {K V S : Type 0} (eq : K → K → Bool) (old new : MapState K V S) (k : K) where
  pub node_count-puts : (v : V) (b : ℕ) (w : V) → PutsEntry eq old new k v b w
      → node_count new ≡ node_count old
  node_count-puts v b w s =
      node_count-changes old new (put eq old.entries k v b) 6 s.puts
      (length-put_there eq old.entries k v b w s.old_value)

  pub HasRoom-inserts : (v : V) (b : ℕ) (r : Result (Option V) (K × V))
      → Inserts eq old new k v b r → HasRoom old → HasRoom new
  HasRoom-inserts v b (Ok None) s h = s.adds.fits
  HasRoom-inserts v b (Ok (Some w)) s h = omega (arith, node_count-puts v b w s)
  HasRoom-inserts v b (Err pair) s h = omega (arith, ap length s.grows.entries)

  -- ---- a write of a value, and a move of an entry

  module _ (v w : V) where
    pub writes_nodes : WritesEntry eq old new k v w → node_count new ≡ node_count old
    writes_nodes s =
        node_count-changes old new (set_value (eq k) old.entries v) 0 s.writes
        (length-set_value (eq k) old.entries v)

  module _ (b : ℕ) where
    pub moves_entries : (r : Option V) → Moves eq old new k b r → new.entries ≡ moved eq old.entries k b
    moves_entries None s = ap (λ m. m.entries) s.step ∙ sym (moved-absent eq old.entries k b (sym s.answer))
    moves_entries (Some w) s = s.step.entries

    pub moves_length : (r : Option V) → Moves eq old new k b r → length new.entries ≡ length old.entries
    moves_length r s = moves_match_length old new (eq k) b r s

    pub moves_nodes : (r : Option V) → Moves eq old new k b r → node_count new ≡ node_count old
    moves_nodes None s = ap node_count s.step
    moves_nodes (Some w) s =
        node_count-changes old new (moved eq old.entries k b) 6 s.step (length-moved eq old.entries k b)

pub ruleset node_counts = (node_count-puts, HasRoom-inserts)

pub ruleset writes = (writes_nodes, keys-set_value, lookup-set_value, lookup_entry-set_value_other)

pub ruleset moves = (moves_entries, moves_length, moves_nodes, lookup-moved, IsEntries-moved)
