-- The length of a cache after its calls, and the inserts that are never refused.
use Rattle.hashlink_model.proofs.Names.{◌≡◌, ℕ, ◌≤◌, ◌<◌, Bool, length, Option, None, Some, Result, Ok, Err}
use Rattle.hashlink_model.proofs.Names.{ap, arith, length-set_value, put, node_count, Clears, RemovesKey}
use Rattle.hashlink_model.specs.Cache.{OnMap, IsWithin, HasNodeToSpare, SetsCapacity, CacheGetsMatch}
use Rattle.hashlink_model.proofs.Names.{PopsFront, CacheState, CacheInserts, CacheGets}
use Rattle.hashlink_model.{specs.Cache.CacheGetsMatchAndWrites, proofs.Afterwards.length-moved_match}
use Rattle.hashlink_model.proofs.{Caches.{length-last_entries, cache_put-at_most}, KeptNodes.kept-inserts}
use Rattle.hashlink_model.proofs.{CacheSteps.{put_entries, inserts_entries}, NodeCounts.moves_match_length}

-- ---- n entries beyond the capacity

-- an insert that is not refused brings the cache within its capacity
pub within-inserted : {K V S : Type 0} (old new : CacheState K V S) (eq : K → K → Bool) (k : K)
    (v : V) (w : Option V) → CacheInserts eq old new k v (Ok w) → IsWithin new 0
within-inserted old new eq k v w s =
    let few = cache_put-at_most eq old.map.entries old.cap k v in
    omega (arith, ap length (inserts_entries eq old new k v w s))

module _ {K V S : Type 0} (old new : CacheState K V S) (n : ℕ) where
  pub within-clears : OnMap Clears old new → IsWithin old n → IsWithin new n
  within-clears s w = omega (arith, ap length s.map.entries)

  pub within-pops_front : (r : Option (K × V)) → OnMap (λ a b. PopsFront a b r) old new → IsWithin old n
      → IsWithin new n
  within-pops_front None s w = omega (arith, ap (λ m. length m.entries) s.map.step)
  within-pops_front (Some e) s w = omega (arith, ap length s.map.step.entries)

  -- a new capacity is not exceeded
  pub within-sets : (cap : ℕ) → SetsCapacity old new cap → IsWithin new 0
  within-sets cap s = omega (arith, ap length s.map.entries, length-last_entries old.map.entries cap)

  -- for a test of keys
  module _ (test : K → Bool) where
    pub within-gets_match : (r : Option V) → CacheGetsMatch test old new r → IsWithin old n → IsWithin new n
    within-gets_match r s i =
        omega (arith, moves_match_length old.map new.map test (length old.map.entries) r s.map)

    pub within-gets_match_and_writes : (w : V) → CacheGetsMatchAndWrites test old new w → IsWithin old n
        → IsWithin new n
    within-gets_match_and_writes w s i =
        let moved1 = length-moved_match test old.map.entries (length old.map.entries) in
        let written = length-set_value test s.map.between.entries w in
        omega (arith, ap (λ m. length m.entries) s.map.writes, ap length s.map.moves.entries)

  module _ (eq : K → K → Bool) (k : K) where
    pub within-inserts : (v : V) (r : Result (Option V) (K × V)) → CacheInserts eq old new k v r
        → IsWithin old n → IsWithin new n
    within-inserts v (Ok w) s i = omega (arith, within-inserted old new eq k v w s)
    within-inserts v (Err pair) s i = omega (arith, ap length s.map.grows.entries)

    pub within-gets : (r : Option V) → CacheGets eq old new k r → IsWithin old n → IsWithin new n
    within-gets r s i = within-gets_match (eq k) r s i

    pub within-removes : (r : Option (K × V)) → OnMap (λ a b. RemovesKey eq a b k r) old new → IsWithin old n
        → IsWithin new n
    within-removes None s i = omega (arith, ap (λ m. length m.entries) s.map.step)
    within-removes (Some e) s i = omega (arith, ap length s.map.step.entries)

-- ---- once an entry was evicted, no insert is refused

module _ {K V S : Type 0} (old new : CacheState K V S) where
  pub to_spare-kept : new.cap ≡ old.cap → node_count old.map ≤ node_count new.map
      → length new.map.entries ≤ length old.map.entries → HasNodeToSpare old → HasNodeToSpare new
  to_spare-kept c n l h = record { beyond = omega arith; spare = omega arith }

  module _ (eq : K → K → Bool) (k : K) (v : V) where
    pub to_spare-dropped : (w : Option V) → CacheInserts eq old new k v (Ok w)
        → old.cap < length (put eq old.map.entries k v (length old.map.entries)) → HasNodeToSpare new
    to_spare-dropped w s l =
        let same = ap length (put_entries eq old.map s.map.between k v w s.map.inserts) in
        let kept = kept-inserts old.map s.map.between eq k v (length old.map.entries) (Ok w) s.map.inserts in
        let few = length-last_entries s.map.between.entries old.cap in
        let left = ap length s.map.fits.entries in
        record { beyond = omega arith; spare = omega arith }

    pub to_spare-inserts : (r : Result (Option V) (K × V)) → CacheInserts eq old new k v r
        → HasNodeToSpare old → HasNodeToSpare new
    to_spare-inserts (Ok w) s h =
        let kept = kept-inserts old.map s.map.between eq k v (length old.map.entries) (Ok w) s.map.inserts in
        let few = length-last_entries s.map.between.entries old.cap in
        let left = ap length s.map.fits.entries in
        record { beyond = omega arith; spare = omega arith }
    to_spare-inserts (Err pair) s h = absurd (omega arith)

pub ruleset inserts = (within-inserts, within-inserted, to_spare-inserts)

pub ruleset bounds = (inserts, within-gets, within-removes, within-gets_match_and_writes)
