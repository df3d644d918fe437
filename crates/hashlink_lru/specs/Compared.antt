-- Comparisons of caches, by their entries in order and their capacities, and what they feed a hasher.
use Rattle.std.specs.Cmp.{IsEquivalence, IsPartialEquivalence, and_equiv, and_per, nat_eq_equiv, on_equiv}
use Rattle.std.specs.Prelude.{◌≡◌, ◌&&◌, Bool, true, List, nat_eq}
use Rattle.std.specs.Cmp.{on_per, partial_equiv_from_equiv, second_so}
use Rattle.hashlink_map.specs.Compared.{maps_alike, maps_eq, maps_equiv, maps_per, map_hash_input}
use Rattle.hashlink_lru.specs.{Cached.map_of, declared.cache.LruCache.LruCache}

module _ {K V S T : Type 0} where
  -- whether two caches have equal capacities, and equal entries at each index
  abbrev pub caches_eq : (K → K → Bool) → (V → V → Bool) → LruCache K V S T → LruCache K V S T → Bool
  caches_eq eqk eqv c d = nat_eq c.capacity d.capacity && maps_eq eqk eqv c.map d.map

  -- a cache feeds a hasher what its map feeds it
  abbrev pub cache_hash_input : {W : Type 0} → (K → List W) → (V → List W) → LruCache K V S T → List W
  cache_hash_input hashk hashv c = map_hash_input hashk hashv c.map

  pub caches_equiv : {eqk : K → K → Bool} {eqv : V → V → Bool} → IsEquivalence eqk → IsEquivalence eqv
      → IsEquivalence (caches_eq eqk eqv)
  caches_equiv a b = and_equiv (on_equiv (λ c. c.capacity) nat_eq_equiv) (on_equiv map_of (maps_equiv a b))

  pub caches_per : {eqk : K → K → Bool} {eqv : V → V → Bool} → IsEquivalence eqk → IsPartialEquivalence eqv
      → IsPartialEquivalence (caches_eq eqk eqv)
  caches_per a b =
      and_per (on_per (λ c. c.capacity) (partial_equiv_from_equiv nat_eq_equiv))
      (on_per map_of (maps_per a b))

  pub caches_alike : {W : Type 0} {eqk : K → K → Bool} {eqv : V → V → Bool} {hashk : K → List W}
      {hashv : V → List W}
      → ((x y : K) → eqk x y ≡ true → hashk x ≡ hashk y) → ((x y : V) → eqv x y ≡ true → hashv x ≡ hashv y)
      → (c d : LruCache K V S T) → caches_eq eqk eqv c d ≡ true
      → cache_hash_input hashk hashv c ≡ cache_hash_input hashk hashv d
  caches_alike {W} {eqk} {eqv} a b c d h =
      maps_alike a b c.map d.map (second_so (nat_eq c.capacity d.capacity) (maps_eq eqk eqv c.map d.map) h)
