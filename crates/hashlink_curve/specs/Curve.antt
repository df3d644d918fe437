-- What a miss curve has counted for a history.
use Rattle.std.specs.Prelude.{◌≡◌, ℕ, ◌+◌, ◌-◌, ◌^◌, ◌<◌, ◌≤◌, Bool, true, false, nat_eq, List, [], ◌∷◌, ◌++◌}
use Rattle.std.specs.Prelude.{length, drop, sum, All, AllPairs, Contains, IsTrue, Option, None, Some}
use Rattle.std.specs.Prelude.{if◌then◌else◌, nat_lt, set, slice_index, Vec, vec_len, vec_capacity}
use Rattle.std.specs.{declared.alloc.Global.Global, List.{AllZip, list_any}, Set.{is_member, unique_keys}}
use Rattle.hashlink_history.specs.History.{reuse_distance, cache_misses}

-- the keys in the order of their last uses, each once; the number of uses at each distance; and the number of
-- further uses of these keys for which memory is reserved
pub record CurveState (K : Type 0) : Type 0 where
  pub keys : List K
  pub reuses : List ℕ
  pub reserved : ℕ

-- the counts are the same, and memory is reserved for no fewer uses
pub record KeepsCounts {K : Type 0} (old new : CurveState K) : Type 0 where
  pub keys : new.keys ≡ old.keys
  pub reuses : new.reuses ≡ old.reuses
  pub reserved : old.reserved ≤ new.reserved

-- the misses of a cache of capacity c: the first use of each key, and each later use at a distance of c or
-- more
abbrev pub misses_at : {K : Type 0} → CurveState K → ℕ → ℕ
misses_at s c = length s.keys + sum (drop c s.reuses)

-- the capacities above c at which the misses fall, with the misses there. `cold` uses never hit, and the list
-- has the number of uses at each distance from c on
abbrev pub falls_from : ℕ → ℕ → List ℕ → List (ℕ × ℕ)
falls_from cold c [] = []
falls_from cold c (n ∷ ns) =
    if nat_eq n 0 then falls_from cold (c + 1) ns else ((c + 1, cold + sum ns) ∷ falls_from cold (c + 1) ns)

-- each capacity at which the misses are fewer than at the one before, in rising order, with the misses there
pub record ListsFalls {K : Type 0} (s : CurveState K) (items : List (ℕ × ℕ)) : Type 0 where
  pub each : All (λ item. (0 < item.0) × (item.1 ≡ misses_at s item.0) × (item.1 < misses_at s (item.0 - 1)))
      items
  pub every : (c : ℕ) → misses_at s (c + 1) < misses_at s c → Contains items (c + 1, misses_at s (c + 1))
  pub rising : AllPairs (λ a b. a.0 < b.0) items

-- if no key passes the test, a key may be made, and each key that may be made passes
abbrev pub CanMakeMatch : {K : Type 0} → (K → Bool) → Type 0 → (K → Type 0) → List K → Type 0
CanMakeMatch test Callable Made keys =
    list_any test keys ≡ false → Callable × ((k : _) → Made k → IsTrue (test k))

module _ {K : Type 0} (eq : K → K → Bool) where
  -- the number of other keys used since the last use of k, or none if k was not used
  abbrev pub distance_of : List K → K → Option ℕ
  distance_of used k = if is_member eq used k then Some (reuse_distance eq used k) else None

  -- the curve has counted this history: at every capacity it has the misses of the cache of that capacity
  pub record Counted (used : List K) (s : CurveState K) : Type 0 where
    pub keys : AllZip (λ a b. eq a b ≡ true) s.keys (unique_keys eq used)
    pub misses : (c : ℕ) → misses_at s c ≡ cache_misses eq c used

  -- one more use of the key k was counted, and its distance was returned
  abbrev pub Counts : List K → CurveState K → CurveState K → K → Option ℕ → Type 0
  Counts used old new k distance =
      Counted used old → Counted (used ++ k ∷ []) new × (distance ≡ distance_of used k)

-- how the parts of a curve belong together: a count for each possible distance, and the number of uses
pub record IsTallied {K : Type 0} (keys : List K) (reuses : List ℕ) (accesses : ℕ) : Type 0 where
  pub distances : length reuses ≡ length keys
  pub all : accesses ≡ length keys + sum reuses
  pub fits : accesses < 2 ^ 64

-- the number of uses at each distance, after one more use at this distance, or with one more distance
abbrev pub tallied : Option ℕ → List ℕ → List ℕ
tallied None reuses = reuses ++ 0 ∷ []
tallied (Some d) reuses = set reuses d (slice_index reuses d + 1)

-- the uses for which memory is reserved: one for each free place, if there is room for one more count
abbrev pub reserved_uses : Vec ℕ Global → ℕ → ℕ
reserved_uses reuses free = if nat_lt (vec_len reuses) (vec_capacity reuses) then free else 0

-- there is room for one more count, or the distance has a count that may grow
abbrev pub CanCount : Option ℕ → Vec ℕ Global → Type 0
CanCount None reuses = vec_len reuses < vec_capacity reuses
CanCount (Some d) reuses = (d < length reuses.items) × (slice_index reuses.items d + 1 < 2 ^ 64)

-- the rest of the curve: the uses at each distance from the capacity on are among those that it misses
pub record Falling (reuses : List ℕ) (capacity misses : ℕ) : Type 0 where
  pub among : sum reuses ≤ misses
  pub fits : capacity + length reuses < 2 ^ 63
