-- A command to a cache that passes a length before anything is dropped has inserted a pair: it is an insert,
-- or a use that missed, and was not refused.
use Rattle.hashlink_history.specs.CacheRuns as event
use Rattle.hashlink_run.proofs.Names.{◌≡◌, ℕ, Bool, List, [], ◌∷◌, length, Option, None, Some, Result, Ok}
use Rattle.hashlink_run.proofs.Names.{Err, MatchOption, MatchResult, ap, subst, inl, inr, lookup}
use Rattle.hashlink_run.proofs.Names.{lookup_entry, CacheState, CacheInserts, CacheGets, CacheUses, Passed}
use Rattle.hashlink_run.proofs.Names.{Length, CacheCommand, Reply, Refused, CacheStep, CacheRun, insert_reply}
use Rattle.hashlink_run.{proofs.Names.{is_refused, Answered, after, Replies}, specs.CacheCalls.put_passed}
use Rattle.hashlink_run.{proofs.Chained.step_of, specs.CacheRun.{command_put, InsertsFit}}
use Rattle.hashlink_run.specs.declared.cache_commands.CacheCommand.TheVariants.{Insert, Use}
use Rattle.std.{proofs.Common.{cond, ◌⊎◌}, specs.Option.option_map_or}
use Rattle.hashlink_model.{specs.Entries.put, proofs.CacheBounds.within-inserted}

-- a use is an insert, or a `get` of a present key
pub use_cases : {K V S : Type 0} (eq : K → K → Bool) (old new : CacheState K V S) (k : K) (v : V)
    (answer : Result (Option V) (K × V)) → CacheUses eq old new k v answer
    → CacheInserts eq old new k v answer
    ⊎ ((w : V) × (answer ≡ Ok (Some w)) × CacheGets eq old new k (Some w))
use_cases {V = V} eq old new k v answer s = by (lookup (eq k) old.map.entries) s
  where
    by : (o : Option V)
        → MatchOption o (CacheInserts eq old new k v answer)
        (λ w. (answer ≡ Ok (Some w)) × CacheGets eq old new k (Some w))
        → CacheInserts eq old new k v answer
        ⊎ ((w : V) × (answer ≡ Ok (Some w)) × CacheGets eq old new k (Some w))
    by None s = inl s
    by (Some w) s = inr (w, s.0, s.1)

module _ {K V B S : Type 0} (eq : K → K → Bool) (Says : K → V → B → Type 0) (old new : CacheState K V S) where
  abbrev PutLength : K → V → ℕ
  PutLength k v = length (put eq old.map.entries k v (length old.map.entries))

  -- a pair was inserted, and there were n before anything was dropped
  pub record PutsIn (n : ℕ) : Type 0 where
    pub key : K
    pub value : V
    pub answer : Option V
    pub inserts : CacheInserts eq old new key value (Ok answer)
    pub passed : PutLength key value ≡ n

  same_length : (m n : ℕ) → ◌≡◌ {A = List Passed} (Length m ∷ []) (Length n ∷ []) → m ≡ n
  same_length m n is = cc

  insert-puts : (k : K) (v : V) (answer : Result (Option V) (K × V)) (n : ℕ)
      → CacheInserts eq old new k v answer
      → command_put {B = B} eq old (Insert k v) (insert_reply answer ∷ []) ≡ Length n ∷ []
      → PutsIn n
  insert-puts k v (Ok w) n s is =
      record { key = k; value = v; answer = w; inserts = s; passed = same_length (PutLength k v) n is }
  insert-puts k v (Err pair) n s is = cc

  use-puts : (k : K) (v : V) (w : Option V) (n : ℕ) (o : Option V)
      → MatchOption o (CacheInserts eq old new k v (Ok w))
      (λ x. (◌≡◌ {A = Result (Option V) (K × V)} (Ok w) (Ok (Some x))) × CacheGets eq old new k (Some x))
      → option_map_or (λ x. []) o (Length (PutLength k v) ∷ []) ≡ Length n ∷ []
      → PutsIn n
  use-puts k v w n None s is =
      record { key = k; value = v; answer = w; inserts = s; passed = same_length (PutLength k v) n is }
  use-puts k v w n (Some x) s is = cc

  -- the lengths that a use passes, by whether it is refused
  abbrev UsePassed : K → V → Bool → List Passed
  UsePassed k v refused = cond refused [] (put_passed eq old.cap old.map.entries (event.Use k v))

  used-puts : (k : K) (v : V) (answer : Result (Option V) (K × V)) (replies : List (Reply K V B)) (n : ℕ)
      → CacheUses eq old new k v answer
      → MatchResult answer (λ w. Replies Says (lookup_entry (eq k) old.map.entries) replies)
      (λ pair. replies ≡ Refused pair.0 pair.1 ∷ [])
      → UsePassed k v (is_refused replies) ≡ Length n ∷ []
      → PutsIn n
  used-puts k v (Ok w) replies n s said is =
      use-puts k v w n (lookup (eq k) old.map.entries) s
      (subst (λ refused. UsePassed k v refused ≡ Length n ∷ []) (ap is_refused said.2) is)
  used-puts k v (Err pair) replies n s said is =
      let none = subst (λ refused. UsePassed k v refused ≡ Length n ∷ []) (ap is_refused said) is in cc

  pub step-puts : (command : CacheCommand K V) (replies : List (Reply K V B)) (n : ℕ)
      → CacheStep eq Says old command replies new → command_put eq old command replies ≡ Length n ∷ []
      → PutsIn n
  step-puts (Insert k v) replies n s is =
      insert-puts k v s.0 n s.1 (subst (λ rs. command_put eq old (Insert k v) rs ≡ Length n ∷ []) s.2 is)
  step-puts (Use k v) replies n s is = used-puts k v s.0 replies n s.1 s.2 is
  step-puts command replies n s is = cc

-- the same, and no more than the capacity are left
pub inserts_fit : {K V B S : Type 0} (eq : K → K → Bool) (Says : K → V → B → Type 0)
    (old : CacheState K V S) (cs : List (CacheCommand K V))
    (xs : List (Answered (Reply K V B) (CacheState K V S))) → CacheRun eq Says old cs xs
    → InsertsFit eq old cs xs
inserts_fit eq Says old cs xs r i n command a at is puts =
    let step = step_of (CacheStep eq Says) i old cs xs r command a at is in
    let p = step-puts eq Says (after old xs i) a.state command a.replies n step puts in
    within-inserted (after old xs i) a.state eq p.key p.value p.answer p.inserts
