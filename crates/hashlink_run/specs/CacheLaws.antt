-- What holds for every list of calls of caches that start empty.
use Rattle.std.specs.Prelude.{◌≡◌, ℕ, ◌+◌, ◌-◌, ◌*◌, ◌≤◌, Bool, ◌&&◌, List, [], ◌∷◌, ◌++◌, take, nat_lt}
use Rattle.std.specs.{Prelude.{Option, Some, is_some, is_none, slice_get}, List.{AllZip, count_by}}
use Rattle.std.specs.{Map.lookup, Set.is_member}
use Rattle.hashlink_history.specs.CacheRuns.{CacheEvent, key_of, used_keys, NoUse, NoRemoval}
use Rattle.hashlink_history.specs.History.{reuse_distance, HoldsRecent, cache_misses, Schedule, misses}
use Rattle.hashlink_history.specs.Inclusion.{IsEndOf, SameKey, SameEntry, AlsoFinds, FindsTheSame}

-- the key was used, and fewer than c other keys since
abbrev pub is_recent : {K : Type 0} → (K → K → Bool) → ℕ → List K → K → Bool
is_recent eq c used k = is_member eq used k && nat_lt (reuse_distance eq used k) c

-- after a use of k: if the cache held the c keys used last before, it now holds the c keys used last, of
-- which k is the last
abbrev pub UsedLast : {K V : Type 0} → (K → K → Bool) → ℕ → List (K × V) → K → List (K × V) → Type 0
UsedLast {K} eq c old k new = (used : List K) → HoldsRecent eq c used old
    → HoldsRecent eq c (used ++ k ∷ []) new

module _ {K V : Type 0} (eq : K → K → Bool) (events : List (CacheEvent K V)) where
  -- inclusion: what two caches hold after the calls, and what the calls returned. The keys of the smaller one
  -- are an end of the larger one's, and whenever the smaller one found a value, so did the larger one. If no
  -- call was a use, the values agree too
  pub record Includes (small large : List (K × V))
      (small_replies large_replies : List (Option V)) : Type 0 where
    pub keys : IsEndOf (SameKey eq) small large
    pub found : AllZip AlsoFinds small_replies large_replies
    pub entries : NoUse events → IsEndOf (SameEntry eq) small large
    pub values : NoUse events → AllZip FindsTheSame small_replies large_replies

  -- reuse distance: what a cache of capacity c holds after the calls, and what the calls returned, if none
  -- was a removal. It holds the keys that were used recently, in the order of their last uses. A call found a
  -- value exactly if its key was one of them
  pub record FollowsHistory (c : ℕ) (entries : List (K × V)) (replies : List (Option V)) : Type 0 where
    pub order : NoRemoval events → HoldsRecent eq c (used_keys events) entries
    pub held : (k : K) → NoRemoval events → is_some (lookup (eq k) entries)
        ≡ is_recent eq c (used_keys events) k
    pub found : (n : ℕ) (e : CacheEvent K V) (reply : Option V) → NoRemoval (take n events)
        → slice_get events n ≡ Some e → slice_get replies n ≡ Some reply
        → is_some reply ≡ is_recent eq c (used_keys (take n events)) (key_of e)

-- uses of the keys miss in a cache of capacity c as often as their reuse distances imply
abbrev pub MissesOfHistory : {K V : Type 0} → (K → K → Bool) → ℕ → List K → List (Option V) → Type 0
MissesOfHistory eq c keys replies = count_by is_none replies ≡ cache_misses eq c keys

-- compared with any other replacement policy, even one that knows the future: if uses of the keys miss that
-- often in a cache of capacity c, a schedule of capacity h misses at least (c - h + 1) / c times as often
abbrev pub BearsComparison : {K V : Type 0} → (K → K → Bool) → ℕ → List K → List (Option V) → Type 0
BearsComparison {K} eq c keys replies =
    (h : ℕ) → 1 ≤ h → h ≤ c → (held : List (List K)) → Schedule eq h keys held
    → (c - h + 1) * count_by is_none replies ≤ c * misses eq keys held
