-- Steps of a cursor: every node is kept, no entry leaves, and no pair is refused as long as a node is free.
use Rattle.hashlink_run.proofs.Names.{◌≡◌, ℕ, ◌≤◌, Bool, false, List, [], ◌∷◌, ◌++◌, length, Option, None}
use Rattle.hashlink_run.proofs.Names.{Some, Result, Ok, Err, refl, ap, ◌∙◌, arith, CursorState, MapState}
use Rattle.hashlink_run.proofs.Names.{KeepsNodes, kept-inserts, CursorStep, Reply, insert_reply, is_refused}
use Rattle.hashlink_run.proofs.Names.{CursorStepped, CursorWalks, first_place}
use Rattle.hashlink_model.{specs.Cursor.place_next, specs.MapState.Inserts, proofs.NodeCounts.node_count-puts}
use Rattle.hashlink_run.specs.declared.commands.CursorStep.TheVariants as cursor
use Rattle.hashlink_run.{specs.CursorSteps.CursorSteps, proofs.EntryNodes.kept_unchanged}

-- every node is kept, and no entry left
record OnlyGrows {K V S : Type 0} (old new : MapState K V S) : Type 0 where
  kept : KeepsNodes old new
  longer : length old.entries ≤ length new.entries

module _ {K V S : Type 0} where
  grows-same : (old new : MapState K V S) → new ≡ old → OnlyGrows old new
  grows-same old new s =
      let same = ap (λ m. length m.entries) s in record
      { kept = kept_unchanged old new s; longer = omega arith }

  grows-then : (a b c : MapState K V S) → OnlyGrows a b → OnlyGrows b c → OnlyGrows a c
  grows-then a b c g h =
      let first = g.kept in
      let second = h.kept in
      let longer = g.longer in
      let still = h.longer in
      record { kept = omega arith; longer = omega arith }

  module _ (eq : K → K → Bool) (old new : MapState K V S) (k : K) (v : V) (b : ℕ) where
    longer-inserts : (r : Result (Option V) (K × V)) → Inserts eq old new k v b r
        → length old.entries ≤ length new.entries
    longer-inserts (Ok None) s =
        let is = ap length s.adds.entries in let more = s.adds.more in omega arith
    longer-inserts (Ok (Some w)) s =
        let nodes = node_count-puts eq old new k v b w s in let spare = s.puts.spare in omega arith
    longer-inserts (Err pair) s = let same = ap length s.grows.entries in omega arith

    grows-inserts : (r : Result (Option V) (K × V)) → Inserts eq old new k v b r → OnlyGrows old new
    grows-inserts r s = record { kept = kept-inserts old new eq k v b r s; longer = longer-inserts r s }

  module _ {B : Type 0} (eq : K → K → Bool) (Says : K → V → B → Type 0) where
    step-grows : (old new : CursorState K V S) (step : CursorStep K V) (replies : List (Reply K V B))
        → CursorStepped eq Says old step replies new → OnlyGrows old.map new.map
    step-grows old new (cursor.Before k v) replies s =
        grows-inserts eq old.map new.map k v old.place s.0 s.1.map
    step-grows old new (cursor.After k v) replies s =
        grows-inserts eq old.map new.map k v (place_next old) s.0 s.1.map
    step-grows old new step replies s = grows-same old.map new.map (ap (λ c. c.map) s.0)

    walk-grows : (old new : CursorState K V S) (steps : List (CursorStep K V)) (replies : List (Reply K V B))
        → CursorWalks eq Says old steps replies new → OnlyGrows old.map new.map
    walk-grows old new [] replies s = grows-same old.map new.map (ap (λ c. c.map) s.1)
    walk-grows old new (step ∷ steps) replies s =
        grows-then old.map s.1.map new.map (step-grows old s.1 step s.0 s.3)
        (walk-grows s.1 new steps s.2 s.4)

    pub cursor-keeps : (old new : MapState K V S) (steps : List (CursorStep K V))
        (replies : List (Reply K V B))
        → CursorSteps eq Says old steps replies new → KeepsNodes old new
    cursor-keeps old new steps replies s =
        (grows-then old s.0.map new (walk-grows (first_place old) s.0 steps replies s.1)
        (grows-same s.0.map new s.2)).kept

-- as long as a node is free, no pair is refused
module _ {K V B S : Type 0} (eq : K → K → Bool) (Says : K → V → B → Type 0) where
  pub inserts-taken : (old new : MapState K V S) → 1 ≤ old.spare → (k : K) (v : V) (b : ℕ)
      (answer : Result (Option V) (K × V)) (more : List (Reply K V B))
      → Inserts eq old new k v b answer → is_refused (insert_reply answer ∷ more) ≡ false
  inserts-taken old new spare k v b (Ok w) more s = refl
  inserts-taken old new spare k v b (Err pair) more s =
      let none = s.may_refuse.no_spare in absurd (omega arith)

  cursor_step-taken : (old new : CursorState K V S) (step : CursorStep K V) (first more : List (Reply K V B))
      → 1 ≤ old.map.spare → CursorStepped eq Says old step first new → is_refused (first ++ more) ≡ false
  cursor_step-taken old new (cursor.Before k v) first more spare s =
      ap (λ rs. is_refused (rs ++ more)) s.2
      ∙ inserts-taken old.map new.map spare k v old.place s.0 more s.1.map
  cursor_step-taken old new (cursor.After k v) first more spare s =
      ap (λ rs. is_refused (rs ++ more)) s.2
      ∙ inserts-taken old.map new.map spare k v (place_next old) s.0 more s.1.map
  cursor_step-taken old new step first more spare s = ap (λ rs. is_refused (rs ++ more)) s.1.2

  pub walk-taken : (old new : CursorState K V S) (steps : List (CursorStep K V))
      (replies : List (Reply K V B))
      → 1 ≤ old.map.spare → CursorWalks eq Says old steps replies new → is_refused replies ≡ false
  walk-taken old new [] replies spare s = ap is_refused s.0
  walk-taken old new (step ∷ steps) replies spare s =
      ap is_refused s.5 ∙ cursor_step-taken old s.1 step s.0 s.2 spare s.3
