-- The nodes along the steps of a cache.
use Rattle.hashlink_run.proofs.Names
use Names.{◌≡◌, Bool, List, [], ◌∷◌, ◌++◌, length, take, Option, Result, Ok, Err, MatchResult, ⊎_elim}
use Names.{append_assoc, arith, refl, sym, ap, ◌∙◌, subst, lookup, lookup_entry, CacheState, CacheInserts}
use Names.{CacheUses, EvictsFront, Passed, Length, PassesInTurn, MapState, node_count, KeepsNodes}
use Names.{kept-inserts, kept-moves, kept-removes_key, kept-pops_front, within_the_peak, CacheCommand, Reply}
use Names.{Refused, CacheStep, CacheRun, insert_reply, Answered, state_after, after, Replies}
use Rattle.std.proofs.Common.{max}
use Rattle.hashlink_history.specs.Peak.{Passes}
use Rattle.hashlink_model.proofs.KeptNodes.{kept-keeps}
use Rattle.hashlink_history.proofs.Peaks.{passes-cache_insert, passes-clears, passes_in_parts}
use Rattle.hashlink_run.specs.declared.cache_commands.CacheCommand.TheVariants as cache
use Rattle.hashlink_run.specs.CacheRun.{command_put, cache_passed, CacheWithinPeak}
use Rattle.hashlink_run.proofs.{CachePuts.use_cases, Called.{passed_one, used}, Chained.Chain-take}
use Rattle.hashlink_run.proofs.EntryNodes.{kept_unchanged, entry-leaves}

module _ {K V B S : Type 0} (eq : K → K → Bool) (Says : K → V → B → Type 0) (old new : CacheState K V S) where
  -- the lengths that a command passes
  abbrev PassesBy : CacheCommand K V → List (Reply K V B) → Type 0
  PassesBy command replies =
      PassesInTurn old.map (command_put eq old command replies ++ Length (length new.map.entries) ∷ [])
      new.map

  keeps : KeepsNodes old.map new.map → PassesInTurn old.map (Length (length new.map.entries) ∷ []) new.map
  keeps kept = passed_one eq old.map new.map kept

  kept-refused : (k : K) (v : V) (pair : K × V) → CacheInserts eq old new k v (Err pair)
      → KeepsNodes old.map new.map
  kept-refused k v pair s = kept-inserts old.map new.map eq k v (length old.map.entries) (Err pair) s.map

  inserted : (k : K) (v : V) (answer : Result (Option V) (K × V)) → CacheInserts eq old new k v answer
      → PassesBy (cache.Insert k v) (insert_reply answer ∷ [])
  inserted k v (Ok w) s = passes-cache_insert eq old new k v w s
  inserted k v (Err pair) s = keeps (kept-refused k v pair s)

  used_so : (k : K) (v : V) (answer : Result (Option V) (K × V)) (replies : List (Reply K V B))
      → CacheUses eq old new k v answer
      → MatchResult answer (λ w. Replies Says (lookup_entry (eq k) old.map.entries) replies)
      (λ pair. replies ≡ Refused pair.0 pair.1 ∷ [])
      → PassesBy (cache.Use k v) replies
  used_so k v (Ok w) replies s said =
      subst (PassesBy (cache.Use k v)) (sym said.2)
      (used eq old new k v w (lookup (eq k) old.map.entries) s).1
  used_so k v (Err pair) replies s said =
      subst (PassesBy (cache.Use k v)) (sym said)
      (keeps (⊎_elim (kept-refused k v pair) (λ g. cc (g.1)) (use_cases eq old new k v (Err pair) s)))

  -- what an eviction leaves, followed by a step that keeps the nodes
  evicted : (between : MapState K V S) → EvictsFront old.map between old.cap → KeepsNodes between new.map
      → KeepsNodes old.map new.map
  evicted between e kept =
      let same : node_count between ≡ node_count old.map =
      let n = ap length e.entries in let spare = e.spare in omega arith in
      kept ∙ ap (λ n. max n (length new.map.entries)) same

  command_passes : (command : CacheCommand K V) (replies : List (Reply K V B))
      → CacheStep eq Says old command replies new → PassesBy command replies
  command_passes (cache.Insert k v) replies s =
      subst (PassesBy (cache.Insert k v)) (sym s.2) (inserted k v s.0 s.1)
  command_passes (cache.Use k v) replies s = used_so k v s.0 replies s.1 s.2
  command_passes (cache.Entry k step) replies s =
      keeps (evicted s.0 s.1 (entry-leaves Says s.0 new.map replies k eq step s.2).kept)
  command_passes (cache.Get k) replies s =
      keeps (kept-moves old.map new.map eq k (length old.map.entries) _ s.0.map)
  command_passes (cache.Peek k) replies s = keeps (kept_unchanged old.map new.map (ap (λ c. c.map) s.0))
  command_passes (cache.Remove k) replies s = keeps (kept-removes_key old.map new.map eq k _ s.0.map)
  command_passes (cache.SetCapacity n) replies s = keeps (kept-keeps old.map new.map _ s.0.map)
  command_passes cache.Clear replies s =
      let none = ap length s.0.map.entries in (
        new.map,
        subst (λ n. Passes old.map (Length n) new.map) (sym none) (passes-clears old.map new.map s.0.map),
        refl,
      )
  command_passes cache.RemoveLru replies s = keeps (kept-pops_front old.map new.map _ s.0.map)

module _ {K V B S : Type 0} (eq : K → K → Bool) (Says : K → V → B → Type 0) where
  run_passes : (old : CacheState K V S) (cs : List (CacheCommand K V))
      (xs : List (Answered (Reply K V B) (CacheState K V S))) → CacheRun eq Says old cs xs
      → PassesInTurn old.map (cache_passed eq old cs xs) (state_after old xs).map
  run_passes old [] [] r = refl
  run_passes old [] (x ∷ xs) r = absurd r
  run_passes old (c ∷ cs) [] r = absurd r
  run_passes old (c ∷ cs) (x ∷ xs) r =
      let one = command_passes eq Says old x.state c x.replies r.0 in
      let n : Passed = Length (length x.state.map.entries) in
      let all =
      passes_in_parts old.map x.state.map (state_after x.state xs).map
      (command_put eq old c x.replies ++ n ∷ [])
      (cache_passed eq x.state cs xs) one (run_passes x.state cs xs r.1) in
      subst (λ ps. PassesInTurn old.map ps (state_after x.state xs).map)
      (append_assoc (command_put eq old c x.replies) (n ∷ []) (cache_passed eq x.state cs xs)) all

  pub cache_within_peak : (old : CacheState K V S) (cs : List (CacheCommand K V))
      (xs : List (Answered (Reply K V B) (CacheState K V S))) → CacheRun eq Says old cs xs
      → CacheWithinPeak eq old cs xs
  cache_within_peak old cs xs r n =
      within_the_peak old.map (after old xs n).map (cache_passed eq old (take n cs) (take n xs))
      (run_passes old (take n cs) (take n xs) (Chain-take (CacheStep eq Says) n old cs xs r))
