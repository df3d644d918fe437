-- Only a clear and a shrink free nodes, and no step makes a node that is not needed.
use Rattle.std.proofs.Common.{◌≡◌, ℕ, ◌≤◌, ◌<◌, List, length, Bool, Option, None, Some, Result, Ok, Err, ap}
use Rattle.std.proofs.{Common.arith, lemmas.Map.length-set_value}
use Rattle.hashlink_model.specs.Steps.{KeepsOnly, Replaces, Moves, RemovesKey, PopsFront, PopsBack, Clears}
use Rattle.hashlink_model.specs.MapState.{MapState, node_count, KeepsNodes, Changes, Inserts}
use Rattle.hashlink_model.{specs.Steps.{MovesAndWrites, Reserves}, proofs.Afterwards.length-moved}
use Rattle.hashlink_model.proofs.NodeCounts.{node_count-puts, writes_nodes, moves_nodes}

module _ {K V S : Type 0} (old new : MapState K V S) where
  pub kept-changes : (es : List (K × V)) (most : ℕ) → Changes old new es most → length es ≡ length old.entries
      → KeepsNodes old new
  kept-changes es most s l = omega (arith, ap length s.entries)

  pub kept-keeps : (es : List (K × V)) → KeepsOnly old new es → KeepsNodes old new
  kept-keeps es s = omega (arith, ap length s.entries)

  pub kept-pops_front : (r : Option (K × V)) → PopsFront old new r → KeepsNodes old new
  kept-pops_front None s = omega (arith, ap node_count s.step)
  kept-pops_front (Some e) s = omega (arith, ap length s.step.entries)

  pub kept-pops_back : (r : Option (K × V)) → PopsBack old new r → KeepsNodes old new
  kept-pops_back None s = omega (arith, ap node_count s.step)
  kept-pops_back (Some e) s = omega (arith, ap length s.step.entries)

  module _ (eq : K → K → Bool) (k : K) where
    pub kept-inserts : (v : V) (b : ℕ) (r : Result (Option V) (K × V)) → Inserts eq old new k v b r
        → KeepsNodes old new
    kept-inserts v b (Ok None) s = omega (arith, ap length s.adds.entries)
    kept-inserts v b (Ok (Some w)) s = omega (arith, node_count-puts eq old new k v b w s)
    kept-inserts v b (Err pair) s = omega (arith, ap length s.grows.entries)

    pub kept-replaces : (v : V) (r : Result (Option V) (K × V)) → Replaces eq old new k v r
        → KeepsNodes old new
    kept-replaces v (Ok None) s = omega (arith, ap length s.adds.entries)
    kept-replaces v (Ok (Some w)) s = omega (arith, writes_nodes eq old new k v w s)
    kept-replaces v (Err pair) s = omega (arith, ap length s.grows.entries)

    pub kept-moves : (b : ℕ) (r : Option V) → Moves eq old new k b r → KeepsNodes old new
    kept-moves b r s = omega (arith, moves_nodes eq old new k b r s)

    pub kept-moves_and_writes : (b : ℕ) (w : V) → MovesAndWrites eq old new k b w → KeepsNodes old new
    kept-moves_and_writes b w s =
        let written = length-set_value (eq k) s.between.entries w in
        omega (arith, length-moved eq old.entries k b, ap node_count s.writes, ap length s.moves.entries)

    pub kept-removes_key : (r : Option (K × V)) → RemovesKey eq old new k r → KeepsNodes old new
    kept-removes_key None s = omega (arith, ap node_count s.step)
    kept-removes_key (Some e) s = omega (arith, ap length s.step.entries)

  pub kept-reserves : {E : Type 0} (n : ℕ) (r : Result (Unit {0}) E) → Reserves old new n r
      → KeepsNodes old new
  kept-reserves n r s = omega (arith, ap length s.grows.entries)

  -- ---- nodes that were kept

  pub kept-never_fall : KeepsNodes old new → node_count old ≤ node_count new
  kept-never_fall s = omega arith

  pub spare_where_shorter : node_count old ≤ node_count new → length new.entries
      < length old.entries → 1 ≤ new.spare
  spare_where_shorter n l = omega arith

  pub cleared_nodes : Clears old new → node_count new ≡ old.spare
  cleared_nodes s = omega (arith, ap length s.entries)

pub ruleset moving = (kept-inserts, kept-replaces, kept-moves, kept-moves_and_writes, kept-changes)

pub ruleset taking = (kept-removes_key, kept-pops_front, kept-pops_back, kept-keeps, kept-reserves)

pub ruleset kept = (moving, taking)
