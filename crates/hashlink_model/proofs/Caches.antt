-- The entries of a cache after its steps.
use Rattle.hashlink_model.proofs.Names.{◌≡◌, ℕ, suc, ◌+◌, ◌-◌, ◌≤◌, ◌<◌, Bool, true, false, min, List, []}
use Rattle.hashlink_model.proofs.Names.{◌∷◌, ◌++◌, length, drop, take, Some, refl, sym, ap, arith, zero}
use Rattle.hashlink_model.proofs.Names.{length-drop, lt-ltb, take-append-drop, IsEquivalence, lookup}
use Rattle.hashlink_model.proofs.Names.{lookup_entry, IsEntries, put, last_entries, cache_put, cache_use}
use Rattle.hashlink_model.proofs.Afterwards.{length-put, length-put_absent, length-put_there, length-moved}
use Rattle.hashlink_model.{proofs.Names.nat_tests, specs.Cache.{front_evicted, cache_extended}}
use Rattle.hashlink_model.proofs.{Distinct.IsEntries-tail, Finds.lookup-equal, Puts.IsEntries-put}
use Rattle.hashlink_model.proofs.Afterwards.{IsEntries-moved, lookup-moved, lookup_entry-put_other, moved_is}
use Rattle.hashlink_model.proofs.Remaining.{lookup-put_remaining, lookup_entry-put_remaining}
use Rattle.std.proofs.{Common.le-ltb, lemmas.Bool.cases_lt}

module _ {K V : Type 0} where
  pub front_evicted-within : (es : List (K × V)) (cap : ℕ) → length es ≤ cap → front_evicted es cap ≡ es
  front_evicted-within es cap l = rw (le-ltb cap (length es) l) refl

  pub front_evicted-above : (es : List (K × V)) (cap : ℕ) → cap < length es → front_evicted es cap ≡ drop 1 es
  front_evicted-above es cap l = rw (lt-ltb cap (length es) l) refl

  -- from at most n + 1 entries, an eviction to a capacity of at most n leaves at most n
  pub front_evicted-at_most : (es : List (K × V)) (cap n : ℕ) → cap ≤ n → length es ≤ n + 1
      → length (front_evicted es cap) ≤ n
  front_evicted-at_most es cap n c m = grind (arith, nat_tests, length-drop 1 es)

  pub length-last_entries : (es : List (K × V)) (n : ℕ) → length (last_entries es n) ≡ min n (length es)
  length-last_entries es n = let a = length-drop (length es - n) es in omega arith

  pub last_entries-end : (es : List (K × V)) (n : ℕ) → take (length es - n) es ++ last_entries es n ≡ es
  last_entries-end es n = take-append-drop (length es - n) es

  -- the last n entries are all, if there are at most n
  pub last_entries-within : (es : List (K × V)) (n : ℕ) → length es ≤ n → last_entries es n ≡ es
  last_entries-within es n l = let none : length es - n ≡ 0 = omega arith in ap (λ m. drop m es) none

  pub IsEntries-drop : (eq : K → K → Bool) (n : ℕ) (es : List (K × V)) → IsEntries eq es
      → IsEntries eq (drop n es)
  IsEntries-drop eq zero es d = d
  IsEntries-drop eq (suc n) [] d = d
  IsEntries-drop eq (suc n) (e ∷ es) d = IsEntries-drop eq n es (IsEntries-tail eq e es d)

  -- ---- the cache's insert

  -- at most the capacity, however many entries there were
  pub cache_put-at_most : (eq : K → K → Bool) (es : List (K × V)) (cap : ℕ) (k : K) (v : V)
      → length (cache_put eq es cap k v) ≤ cap
  cache_put-at_most eq es cap k v = let few = length-last_entries
      (put eq es k v (length es)) cap in omega arith

  put_grown : (eq : K → K → Bool) (es : List (K × V)) (k : K) (v : V)
      → length (put eq es k v (length es)) ≤ length es + 1
  put_grown eq es k v =
      grind (arith, length-put_absent eq es k v (length es), length-put_there eq es k v (length es))

  -- all that the map's insert leaves, if there were fewer than the capacity
  pub cache_put-with_a_place : (eq : K → K → Bool) (es : List (K × V)) (cap : ℕ) (k : K) (v : V)
      → length es < cap → cache_put eq es cap k v ≡ put eq es k v (length es)
  cache_put-with_a_place eq es cap k v l =
      let g = put_grown eq es k v in last_entries-within (put eq es k v (length es)) cap (omega arith)

  -- from a cache within its capacity, an insert evicts at most one entry
  pub cache_put-evicts : (eq : K → K → Bool) (es : List (K × V)) (cap : ℕ) (k : K) (v : V) → length es ≤ cap
      → cache_put eq es cap k v ≡ front_evicted (put eq es k v (length es)) cap
  cache_put-evicts eq es cap k v l =
      let zs = put eq es k v (length es) in
      let tests = cases_lt cap (length zs) in
      grind (arith, put_grown eq es k v, front_evicted-above zs cap, front_evicted-within zs cap, tests)

  pub IsEntries-cache_put : (eq : K → K → Bool) → IsEquivalence eq
      → (es : List (K × V)) (cap : ℕ) (k : K) (v : V) → IsEntries eq es
      → IsEntries eq (cache_put eq es cap k v)
  IsEntries-cache_put eq laws es cap k v d =
      let zs = put eq es k v (length es) in
      IsEntries-drop eq (length zs - cap) zs (IsEntries-put eq laws es k v (length es) d)

  -- ---- an insert of each pair in turn

  pub cache_extended-at_most : (eq : K → K → Bool) (es : List (K × V)) (cap n : ℕ) (pairs : List (K × V))
      → cap ≤ n → length es ≤ n → length (cache_extended eq es cap pairs) ≤ n
  cache_extended-at_most eq es cap n [] c m = m
  cache_extended-at_most eq es cap n (p ∷ pairs) c m =
      let few = cache_put-at_most eq es cap p.0 p.1 in
      cache_extended-at_most eq (cache_put eq es cap p.0 p.1) cap n pairs c (omega arith)

  pub cache_use-at_most : (eq : K → K → Bool) (es : List (K × V)) (cap n : ℕ) (k : K) (v : V) → cap ≤ n
      → length es ≤ n → length (cache_use eq es cap k v) ≤ n
  cache_use-at_most eq es cap n k v c m =
      grind (arith, cache_put-at_most eq es cap k v, length-moved eq es k (length es))

  pub IsEntries-cache_extended : (eq : K → K → Bool) → IsEquivalence eq
      → (es : List (K × V)) (cap : ℕ) (pairs : List (K × V)) → IsEntries eq es
      → IsEntries eq (cache_extended eq es cap pairs)
  IsEntries-cache_extended eq laws es cap [] d = d
  IsEntries-cache_extended eq laws es cap (p ∷ pairs) d =
      IsEntries-cache_extended eq laws (cache_put eq es cap p.0 p.1) cap pairs
      (IsEntries-cache_put eq laws es cap p.0 p.1 d)
  -- ---- lookups after an insert

module _ {K V : Type 0} (eq : K → K → Bool) (laws : IsEquivalence eq) where
  pub lookup-cache_put : (q : K) (es : List (K × V)) (cap : ℕ) (k : K) (v : V) → IsEntries eq es → 1 ≤ cap
      → eq k q ≡ true → lookup (eq q) (cache_put eq es cap k v) ≡ Some v
  lookup-cache_put q es cap k v d c t =
      let zs = put eq es k v (length es) in
      let long = length-put eq es k v (length es) in
      let few = length-last_entries zs cap in
      lookup-put_remaining eq laws q es k v (take (length zs - cap) zs) (last_entries zs cap) d
      (sym (last_entries-end zs cap)) (omega arith) t

  pub lookup_entry-cache_put : (q : K) (es : List (K × V)) (cap : ℕ) (k : K) (v : V) (e : K × V)
      → IsEntries eq es → eq k q ≡ false → lookup_entry (eq q) (cache_put eq es cap k v) ≡ Some e
      → lookup_entry (eq q) es ≡ Some e
  lookup_entry-cache_put q es cap k v e d t l =
      let zs = put eq es k v (length es) in
      lookup_entry-put_remaining eq laws q es k v (take (length zs - cap) zs) (last_entries zs cap) d
      (sym (last_entries-end zs cap)) e t l

  -- ---- a use: a move of a present key, or an insert of an absent one

  pub IsEntries-cache_use : (es : List (K × V)) (cap : ℕ) (k : K) (v : V) → IsEntries eq es
      → IsEntries eq (cache_use eq es cap k v)
  IsEntries-cache_use es cap k v d =
      grind (arith, IsEntries-cache_put eq laws es cap k v d, IsEntries-moved eq laws es k (length es) d)

pub ruleset lengths = (length-last_entries, length-put_there)

pub ruleset others = (lookup_entry-put_other, moved_is)

pub ruleset after_uses = (lookup-cache_put, lookup_entry-cache_put, lookup-equal, lookup-moved, others)

pub ruleset at_most = (cache_put-at_most, cache_put-with_a_place, cache_put-evicts, cache_extended-at_most)

pub ruleset kept = (IsEntries-cache_put, IsEntries-drop, IsEntries-cache_use, IsEntries-cache_extended)

pub ruleset caches = (lengths, after_uses, at_most, kept, cache_use-at_most)
