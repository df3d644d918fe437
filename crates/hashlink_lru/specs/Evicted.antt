-- What an insert evicts, and the step of a push.
use Rattle.std.specs.Prelude.{◌≡◌, ℕ, ◌-◌, Bool, List, length, take, nat_lt, if◌then◌else◌, Option, None}
use Rattle.std.specs.{Prelude.{Result, IfOk}, Map.{lookup, remove_entry}, Option.{option_map, option_or}}
use Rattle.std.specs.Result.{result_map_both}
use Rattle.hashlink_model.specs.{Cache.{CacheState, CacheInserts}, Entries.put, Walk.first_of}

module _ {K V : Type 0} where
  -- the entries before the last `cap`, which are evicted in order
  abbrev pub evicted_entries : List (K × V) → ℕ → List (K × V)
  evicted_entries es cap = take (length es - cap) es

  -- the entry that the insert of a key that passes the test evicts first: the first of the other entries, if
  -- they fill the capacity
  abbrev pub evicted_by : (K → Bool) → List (K × V) → ℕ → Option (K × V)
  evicted_by test es cap =
      if nat_lt (length (remove_entry test es)) cap then None else first_of (remove_entry test es)

  -- the pair that a push returns: the given key with the old value if the key is present, else the first
  -- evicted entry
  abbrev pub pushed_out : (K → K → Bool) → List (K × V) → ℕ → K → V → Option (K × V)
  pushed_out eq es cap k v =
      option_or (option_map (λ w. (k, w)) (lookup (eq k) es))
      (first_of (evicted_entries (put eq es k v (length es)) cap))

  -- what the insert in a push returns
  abbrev pub insert_answer : (K → K → Bool) → List (K × V) → K → Result (Option (K × V)) (K × V)
      → Result (Option V) (K × V)
  insert_answer eq es k r = result_map_both (λ _. lookup (eq k) es) (λ pair. pair) r

-- a push, by its result: the cache's insert, and the pair that leaves
pub record Pushes {K V S : Type 0} (eq : K → K → Bool) (old new : CacheState K V S) (k : K) (v : V)
    (r : Result (Option (K × V)) (K × V)) : Type 0 where
  pub inserts : CacheInserts eq old new k v (insert_answer eq old.map.entries k r)
  pub left : IfOk r (λ out. out ≡ pushed_out eq old.map.entries old.cap k v)
