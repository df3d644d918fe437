-- Histories: the keys that were used, in order, and what a replacement policy may hold.
use Rattle.std.specs.Prelude.{◌≡◌, ℕ, ◌+◌, ◌-◌, ◌≤◌, drop, Bool, true, ◌||◌, ◌&&◌, cond, nat_lt, ◌++◌, List}
use Rattle.std.specs.{Prelude.{[], ◌∷◌, length}, List.{AllByRecursion, AllZip, after_last}}
use Rattle.std.specs.Set.{is_member, unique_keys, distinct_count}

module _ {K : Type 0} (eq : K → K → Bool) where
  -- the number of other keys used since the last use of k, where equal keys count once
  abbrev pub reuse_distance : List K → K → ℕ
  reuse_distance used k = distinct_count eq (after_last (eq k) used)

  -- the last c used keys, each once, in the order of their last uses
  abbrev pub recent_keys : ℕ → List K → List K
  recent_keys c used = drop (distinct_count eq used - c) (unique_keys eq used)

  -- the entries have the last c keys, up to equality and in that order
  abbrev pub HoldsRecent : {V : Type 0} → ℕ → List K → List (K × V) → Type 0
  HoldsRecent c used es = AllZip (λ e k. eq e.0 k ≡ true) es (recent_keys c used)

  -- what a schedule of capacity h that held `before` may hold after k was used: k, otherwise only keys that
  -- it held, and at most h keys
  pub record MayHold (h : ℕ) (before : List K) (k : K) (after : List K) : Type 0 where
    pub size : length after ≤ h
    pub holds : is_member eq after k ≡ true
    pub others : AllByRecursion (λ q. (eq k q || is_member eq before q) ≡ true) after

  -- the held keys after each key of a history, starting with `before`
  abbrev pub IsSchedule : ℕ → List K → List K → List (List K) → Type 0
  IsSchedule h before [] [] = Unit {0}
  IsSchedule h before [] (s ∷ ss) = ⊥
  IsSchedule h before (k ∷ used) [] = ⊥
  IsSchedule h before (k ∷ used) (s ∷ ss) = MayHold h before k s × IsSchedule h s used ss

  -- a schedule that starts empty
  abbrev pub Schedule : ℕ → List K → List (List K) → Type 0
  Schedule h used held = IsSchedule h [] used held

  -- how many keys of the history were not held when they were used
  abbrev pub misses_from : List K → List K → List (List K) → ℕ
  misses_from before [] held = 0
  misses_from before (k ∷ used) [] = 0
  misses_from before (k ∷ used) (s ∷ ss) = cond (is_member eq before k) 0 1 + misses_from s used ss

  abbrev pub misses : List K → List (List K) → ℕ
  misses used held = misses_from [] used held

  -- how many keys of the history a cache of capacity c did not hold when they were used, after the keys of
  -- `before` were used
  abbrev pub cache_misses_from : ℕ → List K → List K → ℕ
  cache_misses_from c before [] = 0
  cache_misses_from c before (k ∷ used) =
      cond (is_member eq before k && nat_lt (reuse_distance before k) c) 0 1 + cache_misses_from c
      (before ++ k ∷ [])
      used

  abbrev pub cache_misses : ℕ → List K → ℕ
  cache_misses c used = cache_misses_from c [] used
