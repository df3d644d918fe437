-- Two caches that share no key, one of which gets an entry.
use Rattle.std.proofs.Common.{◌≡◌, ◌<◌, ℕ, Bool, List, [], ◌∷◌, ◌++◌, length, Option, None, Result, Ok, Err}
use Rattle.std.proofs.Common.{refl, sym, ap, subst, ◌∙◌, arith}
use Rattle.std.specs.Cmp.{IsEquivalence}
use Rattle.std.specs.Map.{lookup}
use Rattle.std.specs.Option.{option_to_list}
use Rattle.std.specs.Prelude.{OnOk}
use Rattle.hashlink_lru.proofs.AfterCalls.{pushed_absent}
use Rattle.hashlink_lru.specs.Evicted.{Pushes, pushed_out}
use Rattle.hashlink_map.proofs.Joined.{apart-from_distinct, apart-inserted}
use Rattle.hashlink_map.proofs.Listed.{lookup-append}
use Rattle.hashlink_map.specs.Joined.{AreParts, ShareNoKey}
use Rattle.hashlink_model.proofs.Afterwards.{lookup-put}
use Rattle.hashlink_model.proofs.Caches.{cache_put-with_a_place}
use Rattle.hashlink_model.proofs.Finds.{lookup_is}
use Rattle.hashlink_model.proofs.Puts.{IsEntries-put, put_back_absent}
use Rattle.hashlink_model.proofs.Splits.{none_from_lookup}
use Rattle.hashlink_model.specs.Cache.{CacheState, IsWithin, cache_put}
use Rattle.hashlink_model.specs.Entries.{IsEntries, put}
use Rattle.hashlink_model.specs.Lookups.{UpdatesWithin}

-- goal: a cache's entries after an insert of an absent key that finds a place
pub cache_put-in_place : {K V : Type 0} (eq : K → K → Bool) (es : List (K × V)) (cap : ℕ) (k : K) (v : V)
    → lookup (eq k) es ≡ None → length es < cap
    → cache_put eq es cap k v ≡ es ++ (k, v) ∷ []
cache_put-in_place eq es cap k v none room =
    cache_put-with_a_place eq es cap k v room ∙ put_back_absent eq es k v (none_from_lookup (eq k) es none)

-- goal: by `#[tactic(auto, using(..))]`, what a key finds in two lists, and what an insert in place leaves
pub ruleset two_lists = (lookup-append, lookup_is, cache_put-in_place)

module _ {K V : Type 0} {eq : K → K → Bool} (laws : IsEquivalence eq) where
  -- goal: two lists still share no key after a push into the cache that has the first
  pub apart-pushed : {S : Type 0} (old new : CacheState K V S) (ys : List (K × V)) (k : K) (v : V)
      (r : Result (Option (K × V)) (K × V)) → ShareNoKey eq old.map.entries ys → Pushes eq old new k v r
      → OnOk r (UpdatesWithin eq old.cap old.map.entries new.map.entries k v) → lookup (eq k) ys ≡ None
      → ShareNoKey eq new.map.entries ys
  apart-pushed old new ys k v (Ok left) apart s u none =
      apart-inserted laws old.map.entries ys new.map.entries k apart none u.1
  apart-pushed old new ys k v (Err pair) apart s u none =
      subst (λ es. ShareNoKey eq es ys) (sym s.inserts.map.grows.entries) apart

  -- goal: what a push of an absent key hands out and what it leaves, of a cache that is within its capacity
  pub pushed-parts : {S : Type 0} (c : CacheState K V S) (k : K) (v : V)
      → lookup (eq k) c.map.entries ≡ None → IsWithin c 0 → IsEntries eq c.map.entries
      → AreParts eq (option_to_list (pushed_out eq c.map.entries c.cap k v))
      (cache_put eq c.map.entries c.cap k v) ((k, v) ∷ c.map.entries)
  pushed-parts c k v none within d =
      let es = c.map.entries in
      let last : put eq es k v (length es) ≡ es ++ (k, v) ∷ []
      = put_back_absent eq es k v (none_from_lookup (eq k) es none) in
      let all = pushed_absent eq es c.cap k v none (omega (arith, within)) ∙ sym last in (
        apart-from_distinct laws _ _
            (subst (IsEntries eq) (sym all) (IsEntries-put eq laws es k v (length es) d)),
        λ q. ap (lookup (eq q)) all ∙ lookup-put eq laws q es k v (length es) d ∙ rw (laws.symm k q) refl,
      )
