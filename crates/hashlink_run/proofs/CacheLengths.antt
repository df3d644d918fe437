-- How far beyond its capacity a cache is, along its steps.
use Rattle.hashlink_run.specs.declared.cache_commands.CacheCommand.TheVariants as cache
use Rattle.hashlink_run.{proofs.CachePuts.use_cases, proofs.EntryNodes.entry-leaves, proofs.Names.{◌≡◌, ℕ}}
use Rattle.hashlink_run.proofs.Names.{◌+◌, ◌-◌, ◌≤◌, Bool, true, List, length, Some, inl, inr, ⊎_elim, refl}
use Rattle.hashlink_run.proofs.Names.{sym, ap, subst, arith, lookup_entry, CacheState, EvictsFront, MapState}
use Rattle.hashlink_run.proofs.Names.{first_of, CacheCommand, EntryStep, Reply, CacheStep, CacheRun, Answered}
use Rattle.hashlink_run.{proofs.Names.EntrySteps, specs.CacheRun.{names_no_entry, KeepsBounds, StaysBounded}}
use Rattle.hashlink_run.{proofs.Chained.{Chain-between, Chain-keeps}, specs.CacheStep.CacheRuns}
use Rattle.std.proofs.Common.{◌⊎◌}
use Rattle.hashlink_model.proofs.CacheBounds.{within-inserts, within-gets, within-removes, within-sets}
use Rattle.hashlink_model.{specs.Cache.IsWithin, proofs.CacheBounds.{within-clears, within-pops_front}}
use Rattle.hashlink_model.proofs.Caches.{front_evicted-at_most}

-- ---- a step keeps the bound

module _ {K V B S : Type 0} (eq : K → K → Bool) (Says : K → V → B → Type 0) (n : ℕ)
    (old new : CacheState K V S) where
  -- entries beyond the capacity are dropped before the entry is named
  within-entry : (between : MapState K V S) (k : K) (step : EntryStep V) (replies : List (Reply K V B))
      → EvictsFront old.map between old.cap → EntrySteps eq Says between k step replies new.map
      → new.cap ≡ old.cap
      → 1 ≤ n → IsWithin old n → IsWithin new n
  within-entry between k step replies e s c some w =
      let same = ap length e.entries in
      let few = front_evicted-at_most old.map.entries old.cap (old.cap + (n - 1))
      (omega arith) (omega arith) in
      let one = (entry-leaves Says between new.map replies k eq step s).few in
      omega arith

  step-within : (command : CacheCommand K V) (replies : List (Reply K V B))
      → (names_no_entry command ≡ true) ⊎ (1 ≤ n)
      → CacheStep eq Says old command replies new → IsWithin old n → IsWithin new n
  step-within (cache.Insert k v) replies by s w = within-inserts old new n eq k v s.0 s.1 w
  step-within (cache.Use k v) replies by s w =
      ⊎_elim (λ i. within-inserts old new n eq k v s.0 i w) (λ g. within-gets old new n eq k (Some g.0) g.2 w)
      (use_cases eq old new k v s.0 s.1)
  step-within (cache.Entry k step) replies (inl none) s w = cc
  step-within (cache.Entry k step) replies (inr some) s w = within-entry s.0 k step replies s.1 s.2 s.3 some w
  step-within (cache.Get k) replies by s w = within-gets old new n eq k _ s.0 w
  step-within (cache.Peek k) replies by s w = subst (λ c. IsWithin c n) (sym s.0) w
  step-within (cache.Remove k) replies by s w =
      within-removes old new n eq k (lookup_entry (eq k) old.map.entries)
      (record { map = s.0.map; cap = s.0.cap }) w
  step-within (cache.SetCapacity m) replies by s w = let none = within-sets old new n m s.0 in omega arith
  step-within cache.Clear replies by s w = within-clears old new n s.0 w
  step-within cache.RemoveLru replies by s w =
      within-pops_front old new n (first_of old.map.entries) (record { map = s.0.map; cap = s.0.cap }) w

-- ---- along a chain

module _ {K V B S : Type 0} (eq : K → K → Bool) (Says : K → V → B → Type 0) (old : CacheState K V S)
    (cs : List (CacheCommand K V)) where
  abbrev Within : ℕ → CacheState K V S → Type 0
  Within n c = IsWithin c n

  pub keeps_bounds : (xs : List (Answered (Reply K V B) (CacheState K V S))) → CacheRun eq Says old cs xs
      → KeepsBounds old cs xs
  keeps_bounds xs r = record {
    without_entries = λ n i j le w all.
        Chain-between (CacheStep eq Says) (Within n) names_no_entry
        (λ a b c rs none s. step-within eq Says n a b c rs (inl none) s) i j old cs xs r le all w;
    with_entries = λ n i j le w.
        Chain-between (CacheStep eq Says) (Within (n + 1)) (λ c. true)
        (λ a b c rs yes s. step-within eq Says (n + 1) a b c rs (inr (omega arith)) s) i j old cs xs r le
        (λ k d at. refl) w;
  }

  pub stays_bounded : (replies : List (Reply K V B)) (new : CacheState K V S)
      → CacheRuns eq Says old cs replies new → StaysBounded old cs new
  stays_bounded replies new r = record {
    without_entries = λ n all w.
        rw r.reached (Chain-keeps (CacheStep eq Says) (Within n) names_no_entry
        (λ a b c rs none s. step-within eq Says n a b c rs (inl none) s) old cs r.answers r.chain all w);
    with_entries = λ n w.
        rw r.reached (Chain-keeps (CacheStep eq Says) (Within (n + 1)) (λ c. true)
        (λ a b c rs yes s. step-within eq Says (n + 1) a b c rs (inr (omega arith)) s) old cs r.answers
        r.chain (λ k d at. refl) w);
  }
