-- A free node stays free along the steps of a cache, so nothing is refused.
use Rattle.hashlink_run.proofs.Names
use Names.{◌≡◌, ℕ, ◌≤◌, ◌<◌, Bool, true, false, List, [], ◌∷◌, length, Option, None, Some, Result, Ok, Err}
use Names.{MatchResult, ⊎_elim, sym, ap, subst, arith, lookup_entry, CacheState, EvictsFront, CacheInserts}
use Names.{CacheGets, CacheUses, MapState, kept-moves, kept-removes_key, kept-pops_front, CacheCommand, Reply}
use Names.{Refused, CacheStep, CacheRun, insert_reply, is_refused, Answered, after, Replies}
use Rattle.hashlink_model.specs.{Cache.HasNodeToSpare, Steps.{RemovesKey, PopsFront}}
use Rattle.hashlink_model.proofs.CacheBounds.{to_spare-kept, to_spare-dropped, to_spare-inserts}
use Rattle.hashlink_model.proofs.{KeptNodes.kept-never_fall, NodeCounts.moves_length}
use Rattle.hashlink_run.specs.declared.cache_commands.CacheCommand.TheVariants as cache
use Rattle.hashlink_run.specs.CacheRun.{leaves_spare, DropsPair, TakesAllAfterADrop}
use Rattle.hashlink_run.proofs.{CachePuts.{step-puts, use_cases}, Chained.{Chain-from, step_at, step_of}}
use Rattle.hashlink_run.proofs.EntryNodes.{entry-leaves}

-- ---- as long as a node is free, nothing is refused

module _ {K V B S : Type 0} (eq : K → K → Bool) (Says : K → V → B → Type 0)
    (replies : List (Reply K V B)) where
  inserted-taken : (old new : CacheState K V S) (k : K) (v : V) (answer : Result (Option V) (K × V))
      → 1 ≤ old.map.spare → CacheInserts eq old new k v answer → replies ≡ insert_reply answer ∷ []
      → is_refused replies ≡ false
  inserted-taken old new k v (Ok w) spare s is = ap is_refused is
  inserted-taken old new k v (Err pair) spare s is =
      let none = s.map.may_refuse.no_spare in absurd (omega arith)

  used-taken : (old new : CacheState K V S) (k : K) (v : V) (answer : Result (Option V) (K × V))
      → 1 ≤ old.map.spare → CacheUses eq old new k v answer
      → MatchResult answer (λ w. Replies Says (lookup_entry (eq k) old.map.entries) replies)
      (λ pair. replies ≡ Refused pair.0 pair.1 ∷ [])
      → is_refused replies ≡ false
  used-taken old new k v (Ok w) spare s said = ap is_refused said.2
  used-taken old new k v (Err pair) spare s said =
      ⊎_elim (λ (i : CacheInserts eq old new k v (Err pair)).
      let none = i.map.may_refuse.no_spare in absurd (omega arith)) (λ g. cc (g.1))
      (use_cases eq old new k v (Err pair) s)

  -- after an eviction a node is free too
  evicted-spare : (old between : MapState K V S) (cap : ℕ) → EvictsFront old between cap → 1 ≤ old.spare
      → 1 ≤ between.spare
  evicted-spare old between cap e some = let spare = e.spare in let fewer = e.no_more in omega arith

  step-taken : (old new : CacheState K V S) (command : CacheCommand K V) → 1 ≤ old.map.spare
      → CacheStep eq Says old command replies new → is_refused replies ≡ false
  step-taken old new (cache.Insert k v) spare s = inserted-taken old new k v s.0 spare s.1 s.2
  step-taken old new (cache.Use k v) spare s = used-taken old new k v s.0 spare s.1 s.2
  step-taken old new (cache.Entry k step) spare s =
      (entry-leaves Says s.0 new.map replies k eq step s.2).taken
      (evicted-spare old.map s.0 old.cap s.1 spare)
  step-taken old new (cache.Get k) spare s = ap is_refused s.1.2
  step-taken old new (cache.Peek k) spare s = ap is_refused s.1.2
  step-taken old new command spare s = ap is_refused s.1

-- ---- a step leaves a free node

module _ {K V S : Type 0} (a b : MapState K V S) where
  removes-shorter : (eq : K → K → Bool) (k : K) (r : Option (K × V)) → RemovesKey eq a b k r
      → length b.entries ≤ length a.entries
  removes-shorter eq k None s = let same = ap (λ m. length m.entries) s.step in omega arith
  removes-shorter eq k (Some e) s =
      let same = ap length s.step.entries in let fewer = s.step.fewer in omega arith

  pops-shorter : (r : Option (K × V)) → PopsFront a b r → length b.entries ≤ length a.entries
  pops-shorter None s = let same = ap (λ m. length m.entries) s.step in omega arith
  pops-shorter (Some e) s =
      let same = ap length s.step.entries in let fewer = s.step.fewer in omega arith

module _ {K V B S : Type 0} (eq : K → K → Bool) (Says : K → V → B → Type 0) (old new : CacheState K V S) where
  got-spare : (k : K) (r : Option V) → CacheGets eq old new k r → HasNodeToSpare old → HasNodeToSpare new
  got-spare k r s h =
      let same = moves_length eq old.map new.map k (length old.map.entries) r s.map in
      to_spare-kept old new s.cap
      (kept-never_fall old.map new.map (kept-moves old.map new.map eq k (length old.map.entries) r s.map))
      (omega arith) h

  step-spare : (command : CacheCommand K V) (replies : List (Reply K V B)) → leaves_spare command ≡ true
      → CacheStep eq Says old command replies new → HasNodeToSpare old → HasNodeToSpare new
  step-spare (cache.Insert k v) replies leaves s h = to_spare-inserts old new eq k v s.0 s.1 h
  step-spare (cache.Use k v) replies leaves s h =
      ⊎_elim (λ i. to_spare-inserts old new eq k v s.0 i h) (λ g. got-spare k (Some g.0) g.2 h)
      (use_cases eq old new k v s.0 s.1)
  step-spare (cache.Get k) replies leaves s h = got-spare k _ s.0 h
  step-spare (cache.Peek k) replies leaves s h = subst HasNodeToSpare (sym s.0) h
  step-spare (cache.Remove k) replies leaves s h =
      to_spare-kept old new s.0.cap
      (kept-never_fall old.map new.map (kept-removes_key old.map new.map eq k _ s.0.map))
      (removes-shorter old.map new.map eq k _ s.0.map) h
  step-spare cache.RemoveLru replies leaves s h =
      to_spare-kept old new s.0.cap
      (kept-never_fall old.map new.map (kept-pops_front old.map new.map _ s.0.map))
      (pops-shorter old.map new.map _ s.0.map) h
  step-spare command replies leaves s h = cc

  -- so does an insert that dropped a pair
  step-drops : (command : CacheCommand K V) (replies : List (Reply K V B))
      → CacheStep eq Says old command replies new → DropsPair eq old command replies → HasNodeToSpare new
  step-drops command replies s d =
      let puts = step-puts eq Says old new command replies d.0 s d.1 in
      to_spare-dropped old new eq puts.key puts.value puts.answer puts.inserts
      (subst (λ m. old.cap < m) (sym puts.passed) d.2)

-- ---- after the drop

pub takes_all_after_a_drop : {K V B S : Type 0} (eq : K → K → Bool) (Says : K → V → B → Type 0)
    (old : CacheState K V S) (cs : List (CacheCommand K V))
    (xs : List (Answered (Reply K V B) (CacheState K V S))) → CacheRun eq Says old cs xs
    → TakesAllAfterADrop eq old cs xs
takes_all_after_a_drop eq Says old cs xs r i j command a at is d less all =
    let dropped =
    step-drops eq Says (after old xs i) a.state command a.replies
    (step_of (CacheStep eq Says) i old cs xs r command a at is) d in
    let stays =
    Chain-from (CacheStep eq Says) HasNodeToSpare leaves_spare (step-spare eq Says) i j old cs xs r a is less
    all dropped in
    let some = stays.spare in (
      λ k may. let none = may.no_spare in omega arith,
      λ b there.
          let s = step_at (CacheStep eq Says) j old cs xs r b there in
          step-taken eq Says b.replies (after old xs j) b.state s.0 some s.2,
    )
