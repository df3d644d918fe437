-- Chains of a map's steps: the nodes along them, and that no pair is refused as long as a node is free.
use Rattle.hashlink_run.specs.Run.{Run, Runs, keeps_nodes, passed_by, StaysWithinPeak, TakesKeysWhereShorter}
use Rattle.hashlink_run.{proofs.Names.{◌≡◌, ℕ, ◌≤◌, ◌<◌, Bool, true}, specs.declared.commands.Command.Command}
use Rattle.hashlink_run.proofs.Names.{List, [], ◌∷◌, length, take, refl, sym, arith, MapState, node_count}
use Rattle.hashlink_run.proofs.Names.{PassesInTurn, within_the_peak, Reply, Answered, state_after, after}
use Rattle.hashlink_run.{proofs.Chained.{Chain-take, Chain-keeps, Chain-between, step_at}, proofs.Names.Step}
use Rattle.hashlink_run.proofs.AnyCommand.{map_step-taken, step-nodes}
use Rattle.std.{proofs.Common.le_refl, specs.List.AllPass}
use Rattle.hashlink_model.proofs.KeptNodes.{kept-never_fall, spare_where_shorter}

module _ {K V B S : Type 0} (eq : K → K → Bool) (Says : K → V → B → Type 0)
    (Keeps : K → V → Bool → Type 0) where
  -- ---- the nodes along a chain

  run-passes : (old : MapState K V S) (cs : List (Command K V))
      (xs : List (Answered (Reply K V B) (MapState K V S)))
      → Run eq Says Keeps old cs xs → PassesInTurn old (passed_by cs xs) (state_after old xs)
  run-passes old [] [] r = refl
  run-passes old [] (x ∷ xs) r = absurd r
  run-passes old (c ∷ cs) [] r = absurd r
  run-passes old (c ∷ cs) (x ∷ xs) r =
      (x.state, (step-nodes eq Says Keeps old x.state c x.replies r.0).1, run-passes x.state cs xs r.1)

  -- a command that releases no node leaves at least as many
  keeps_at_least : (n : ℕ) (a b : MapState K V S) (c : Command K V) (replies : List (Reply K V B))
      → keeps_nodes c ≡ true → Step eq Says Keeps a c replies b → n ≤ node_count a → n ≤ node_count b
  keeps_at_least n a b c replies keeps s le =
      let more = kept-never_fall a b ((step-nodes eq Says Keeps a b c replies s).0 keeps) in omega arith

  module _ (old : MapState K V S) (cs : List (Command K V))
      (xs : List (Answered (Reply K V B) (MapState K V S))) (run : Run eq Says Keeps old cs xs) where
    pub stays_within_peak : StaysWithinPeak old cs xs
    stays_within_peak n =
        within_the_peak old (after old xs n) (passed_by (take n cs) (take n xs))
        (run-passes old (take n cs) (take n xs) (Chain-take (Step eq Says Keeps) n old cs xs run))

    pub takes_keys_where_shorter : TakesKeysWhereShorter old cs xs eq
    takes_keys_where_shorter i j le all shorter =
        let n : ℕ = node_count (after old xs i) in
        let nodes =
        Chain-between (Step eq Says Keeps) (λ m. n ≤ node_count m) keeps_nodes (keeps_at_least n) i j old cs
        xs run le all (le_refl n) in
        let spare = spare_where_shorter (after old xs i) (after old xs j) nodes shorter in (
          spare,
          λ k may. let none = may.no_spare in omega arith,
          λ b at.
              let s = step_at (Step eq Says Keeps) j old cs xs run b at in
              map_step-taken eq Says Keeps (after old xs j) b.state s.0 b.replies spare s.2,
        )

  -- what a run without a clear and a shrink leaves
  pub spare_at_the_end : (old : MapState K V S) (cs : List (Command K V)) (replies : List (Reply K V B))
      (new : MapState K V S) → Runs eq Says Keeps old cs replies new → AllPass keeps_nodes cs
      → length new.entries < length old.entries → 1 ≤ new.spare
  spare_at_the_end old cs replies new r all =
      let n : ℕ = node_count old in
      let kept =
      Chain-keeps (Step eq Says Keeps) (λ m. n ≤ node_count m) keeps_nodes (keeps_at_least n) old cs r.answers
      r.chain all (le_refl n) in
      spare_where_shorter old new (rw (sym r.reached) at kept)
