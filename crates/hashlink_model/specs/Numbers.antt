-- The definitions for keys, values and elements that are numbers, for examples to which they compute.
use Rattle.std.specs.Prelude.{ℕ, Bool, true, not, List, length, fold, Option, nat_eq}
use Rattle.std.specs.Map as map
use Rattle.std.specs.{Ordering.nat_cmp, Set.is_member, declared.cmp.Ordering.Ordering}
use Rattle.hashlink_model.specs.Algebra as algebra
use Rattle.hashlink_model.specs.Cache as cache
use Rattle.hashlink_model.specs.Compare as compare
use Rattle.hashlink_model.specs.Cursor as cursor
use Rattle.hashlink_model.specs.Entries as entries
use Rattle.hashlink_model.specs.Entry as entry
use Rattle.hashlink_model.specs.Sets as sets
use Rattle.hashlink_model.specs.Weights as weights

-- entries whose keys and values are numbers
abbrev pub Pairs : Type 0
Pairs = List (ℕ × ℕ)

abbrev pub lookup : Pairs → ℕ → Option ℕ
lookup es k = map.lookup (nat_eq k) es

abbrev pub place_of : Pairs → ℕ → Option ℕ
place_of es k = entries.place_of (nat_eq k) es

abbrev pub put : Pairs → ℕ → ℕ → ℕ → Pairs
put = entries.put nat_eq

-- the map's insert, insert at the front and replace
abbrev pub insert : Pairs → ℕ → ℕ → Pairs
insert es k v = put es k v (length es)

abbrev pub insert_front : Pairs → ℕ → ℕ → Pairs
insert_front es k v = put es k v 0

abbrev pub replace : Pairs → ℕ → ℕ → Pairs
replace es k v = put es k v (entries.place_or_end nat_eq es k)

abbrev pub to_back : Pairs → ℕ → Pairs
to_back es k = entries.moved nat_eq es k (length es)

abbrev pub to_front : Pairs → ℕ → Pairs
to_front es k = entries.moved nat_eq es k 0

abbrev pub remove : Pairs → ℕ → Pairs
remove = entries.without nat_eq

abbrev pub extend : Pairs → Pairs → Pairs
extend = entries.extended nat_eq

-- cursors
abbrev pub insert_before : Pairs → ℕ → ℕ → ℕ → Pairs
insert_before = put

abbrev pub insert_after : Pairs → ℕ → ℕ → ℕ → Pairs
insert_after es k v i = put es k v (cursor.following_place (length es) i)

abbrev pub place_kept : Pairs → Pairs → ℕ → ℕ
place_kept = cursor.place_kept nat_eq

-- entries, by their places
abbrev pub insert_value : Pairs → ℕ → ℕ → Pairs
insert_value = entry.insert_value

abbrev pub insert_entry : Pairs → ℕ → ℕ → ℕ → Pairs
insert_entry = entry.insert_entry

abbrev pub replace_entry : Pairs → ℕ → ℕ → ℕ → Pairs
replace_entry = entry.replace_entry

abbrev pub set_value_at : Pairs → ℕ → ℕ → Pairs
set_value_at = entries.set_value_at

abbrev pub or_insert : Pairs → ℕ → ℕ → Pairs
or_insert = entry.or_insert nat_eq

-- sets
abbrev pub union : List ℕ → List ℕ → List ℕ
union = algebra.union_of nat_eq

abbrev pub difference : List ℕ → List ℕ → List ℕ
difference = algebra.difference_of nat_eq

abbrev pub intersection : List ℕ → List ℕ → List ℕ
intersection = algebra.intersection_of nat_eq

abbrev pub symmetric_difference : List ℕ → List ℕ → List ℕ
symmetric_difference = algebra.symmetric_difference_of nat_eq

abbrev pub put_element : List ℕ → ℕ → ℕ → List ℕ
put_element = sets.put_element nat_eq

abbrev pub replaced : List ℕ → ℕ → List ℕ
replaced = sets.replaced nat_eq

-- the set's insert
abbrev pub insert_element : List ℕ → ℕ → List ℕ
insert_element ts t = put_element ts t (length ts)

-- one step of the lazy walk over a union, whose left set is xs
abbrev pub union_step : List ℕ → algebra.PairWalk ℕ → Option ℕ × algebra.PairWalk ℕ
union_step xs = algebra.pair_step (λ _. true) (λ y. not (is_member nat_eq xs y))

-- comparisons
abbrev pub equal : Pairs → Pairs → Bool
equal = compare.entries_eq nat_eq nat_eq

abbrev pub order : Pairs → Pairs → Ordering
order = compare.entries_cmp nat_cmp nat_cmp

-- caches
abbrev pub cache_insert : Pairs → ℕ → ℕ → ℕ → Pairs
cache_insert = cache.cache_put nat_eq

abbrev pub cache_get : Pairs → ℕ → Pairs
cache_get = cache.cache_get nat_eq

abbrev pub cache_use : Pairs → ℕ → ℕ → ℕ → Pairs
cache_use = cache.cache_use nat_eq

abbrev pub cache_uses : ℕ → Pairs → Pairs
cache_uses = cache.cache_uses nat_eq

abbrev pub last_entries : Pairs → ℕ → Pairs
last_entries = cache.last_entries

-- the cache's entry for a key, which is looked up after an eviction, and its `or_insert`
abbrev pub cache_or_insert : Pairs → ℕ → ℕ → ℕ → Pairs
cache_or_insert es cap k v = or_insert (cache.front_evicted es cap) k v

-- the same for each pair in turn
abbrev pub cache_or_inserts : Pairs → ℕ → Pairs → Pairs
cache_or_inserts es cap pairs = fold (λ zs p. cache_or_insert zs cap p.0 p.1) es pairs

-- entries of (key, (value, weight))
abbrev pub Weighted : Type 0
Weighted = List (ℕ × (ℕ × ℕ))

abbrev pub weighted_insert : Weighted → ℕ → ℕ → ℕ → ℕ → Weighted
weighted_insert = weights.weighted_put nat_eq

abbrev pub total : Weighted → ℕ
total = weights.total_weight
