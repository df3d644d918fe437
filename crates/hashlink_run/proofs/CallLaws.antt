-- What holds for every list of calls of caches that start empty.
use Rattle.std.proofs.Common.{◌≡◌, ℕ, zero, suc, ◌+◌, ◌≤◌, Bool, cond, List, [], ◌∷◌, take, map, slice_get}
use Rattle.std.proofs.Common.{Result, Ok, Err, OnOk, Option, None, Some, is_some, is_none, refl, sym, ap, ap₂}
use Rattle.std.{proofs.Common.◌∙◌, specs.Cmp.IsEquivalence, specs.List.count_by, specs.Map.{lookup, keys_of}}
use Rattle.std.proofs.lemmas.{List.Sums.sum_by-cons, Option.same_Some}
use Rattle.hashlink_model.specs.{Cache.{CacheState, CacheUses, cache_use, missed_uses}, Entries.IsEntries}
use Rattle.hashlink_model.proofs.{CacheSteps.uses_entries, Distinct.IsEntries-nil}
use Rattle.hashlink_history.specs.CacheRuns.{CacheEvent, used_keys, answer_to, after_event, after_events}
use Rattle.hashlink_history.proofs.CacheRuns.{keys_along, finds_along, entries_along, finds_the_same_along}
use Rattle.hashlink_history.{specs.CacheRuns.answers, proofs.Competitive.{competitive, missed_uses-history}}
use Rattle.hashlink_history.proofs.CacheRuns.{holds_along, answers_along, IsEntries-after_events}
use Rattle.hashlink_history.proofs.Reuse.{held_exactly, HoldsRecent-cache_use}
use Rattle.hashlink_run.specs.CacheCalls.{RunsFromEmpty, use_of}
use Rattle.hashlink_run.specs.CacheLaws.{Includes, FollowsHistory, MissesOfHistory, BearsComparison, UsedLast}

module _ {K V : Type 0} (eq : K → K → Bool) where
  -- the call at index n returns what its key has after the calls before it
  answer_at : (c : ℕ) (es : List (K × V)) (events : List (CacheEvent K V)) (n : ℕ) (e : CacheEvent K V)
      (reply : Option V) → slice_get events n ≡ Some e → slice_get (answers eq c es events) n ≡ Some reply
      → reply ≡ answer_to eq (after_events eq c es (take n events)) e
  answer_at c es [] n e reply at is = cc
  answer_at c es (d ∷ events) zero e reply at is =
      sym (same_Some _ _ is) ∙ ap (answer_to eq es) (same_Some _ _ at)
  answer_at c es (d ∷ events) (suc n) e reply at is =
      answer_at c (after_event eq c es d) events n e reply at is

  -- the misses are the calls that returned `None`
  misses_counted : (c : ℕ) (es : List (K × V)) (pairs : List (K × V))
      → count_by is_none (answers eq c es (map use_of pairs)) ≡ missed_uses eq c es pairs
  misses_counted c es [] = refl
  misses_counted c es (p ∷ pairs) =
      sum_by-cons (λ r. cond (is_none r) 1 0) (lookup (eq p.0) es)
      (answers eq c (cache_use eq es c p.0 p.1) (map use_of pairs))
      ∙ ap₂ (λ a b. a + b) (by (lookup (eq p.0) es)) (misses_counted c (cache_use eq es c p.0 p.1) pairs)
    where
      by : (o : Option V) → ◌≡◌ {A = ℕ} (cond (is_none o) 1 0) (cond (is_some o) 0 1)
      by None = refl
      by (Some w) = refl

  module _ (laws : IsEquivalence eq) where
    pub includes : (c d : ℕ) → c ≤ d → (events : List (CacheEvent K V))
        → Includes eq events (after_events eq c [] events) (after_events eq d [] events)
        (answers eq c [] events) (answers eq d [] events)
    includes c d le events = record {
      keys = keys_along eq laws c d le events;
      found = finds_along eq laws c d le events;
      entries = entries_along eq laws c d le events;
      values = finds_the_same_along eq laws c d le events;
    }

    pub follows_history : (c : ℕ) (events : List (CacheEvent K V))
        → FollowsHistory eq events c (after_events eq c [] events) (answers eq c [] events)
    follows_history c events = record {
      order = holds_along eq laws c events;
      held = λ k none.
          held_exactly eq laws c (used_keys events) (after_events eq c [] events) k
          (holds_along eq laws c events none);
      found = λ n e reply none at is.
          ap is_some (answer_at c [] events n e reply at is) ∙ answers_along eq laws c (take n events) e none;
    }

    pub use-recent : {S : Type 0} (old new : CacheState K V S) (k : K) (v : V) (r : Result (Option V) (K × V))
        → CacheUses eq old new k v r → OnOk r (UsedLast eq old.cap old.map.entries k new.map.entries)
    use-recent old new k v (Ok w) s = λ used h.
        rw (uses_entries eq old new k v w s).1
        (HoldsRecent-cache_use eq laws old.cap used old.map.entries k v h)
    use-recent old new k v (Err pair) s = tt

    -- the same for the cache after some calls, and for two such caches
    module _ {S : Type 0} (s : S) (events : List (CacheEvent K V)) where
      pub ran-follows : (c : ℕ) (replies : List (Option V)) (new : CacheState K V S)
          → RunsFromEmpty eq s c events replies new → FollowsHistory eq events c new.map.entries replies
      ran-follows c replies new r = rw (r.entries, r.answered) (follows_history c events)

      pub ran-distinct : (c : ℕ) (replies : List (Option V)) (new : CacheState K V S)
          → RunsFromEmpty eq s c events replies new → IsEntries eq new.map.entries
      ran-distinct c replies new r =
          rw r.entries (IsEntries-after_events eq laws c [] events (IsEntries-nil V eq))

      pub ran-includes : (c d : ℕ) → c ≤ d → (small_replies large_replies : List (Option V))
          (small large : CacheState K V S)
          → RunsFromEmpty eq s c events small_replies small → RunsFromEmpty eq s d events large_replies large
          → Includes eq events small.map.entries large.map.entries small_replies large_replies
      ran-includes c d le small_replies large_replies small large r t =
          rw (r.entries, r.answered, t.entries, t.answered) (includes c d le events)

    pub misses_of_history : (c : ℕ) (pairs : List (K × V)) (replies : List (Option V))
        → replies ≡ answers eq c [] (map use_of pairs) → MissesOfHistory eq c (map (λ p. p.0) pairs) replies
    misses_of_history c pairs replies is =
        ap (count_by is_none) is ∙ misses_counted c [] pairs ∙ missed_uses-history eq laws c pairs

    pub bears_comparison : (c : ℕ) (pairs : List (K × V)) (replies : List (Option V))
        → replies ≡ answers eq c [] (map use_of pairs) → BearsComparison eq c (map (λ p. p.0) pairs) replies
    bears_comparison c pairs replies is = λ h one le held schedule.
        rw (misses_of_history c pairs replies is)
        (competitive eq laws c h one le (keys_of pairs) held schedule)
