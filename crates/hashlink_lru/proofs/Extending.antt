-- Items are inserted into a cache one after another.
use Rattle.std.specs.Prelude.{◌≡◌, ℕ, Bool, List, [], ◌∷◌, Option, Result, Ok, Err, IsOk}
use Rattle.std.proofs.Common.{ap, ap₂, sym, subst, ◌∙◌}
use Rattle.hashlink_model.specs.{Cache.{CacheState, IsWithin, cache_extended}, Many.{AcceptsAll, StopsAt}}
use Rattle.hashlink_model.proofs.{CacheBounds.{within-inserts, within-inserted}, CacheSteps.inserts_entries}
use Rattle.hashlink_lru.specs.Cached.{InsertsPairIn}

module _ {K V S : Type 0} (eq : K → K → Bool) where
  pub extended_capacity : (old new : CacheState K V S) (items : List (K × V))
      → AcceptsAll (InsertsPairIn eq) old items new
      → new.cap ≡ old.cap
  extended_capacity old new [] s = ap (λ c. c.cap) s
  extended_capacity old new (p ∷ items) s = extended_capacity s.0 new items s.3 ∙ s.2.cap

  pub extended_entries : (old new : CacheState K V S) (items : List (K × V))
      → AcceptsAll (InsertsPairIn eq) old items new
      → new.map.entries ≡ cache_extended eq old.map.entries old.cap items
  extended_entries old new [] s = ap (λ c. c.map.entries) s
  extended_entries old new (p ∷ items) s =
      extended_entries s.0 new items s.3
      ∙ ap₂ (λ es n. cache_extended eq es n items) (inserts_entries eq old s.0 p.0 p.1 s.1 s.2) s.2.cap

  pub extended_within : (old new : CacheState K V S) (items : List (K × V)) (n : ℕ)
      → AcceptsAll (InsertsPairIn eq) old items new → IsWithin old n
      → IsWithin new n
  extended_within old new [] n s i = subst (λ c. IsWithin c n) (sym s) i
  extended_within old new (p ∷ items) n s i =
      extended_within s.0 new items n s.3 (within-inserts old s.0 n eq p.0 p.1 (Ok s.1) s.2 i)

  -- after an insert that succeeds, no entry is beyond the capacity
  pub inserted_fits : (old new : CacheState K V S) (p : K × V) (r : Result (Option V) (K × V))
      → InsertsPairIn eq old new p r → IsOk r
      → IsWithin new 0
  inserted_fits old new p (Ok w) s ok = within-inserted old new eq p.0 p.1 w s
  inserted_fits old new p (Err pair) s ok = cc

  -- and the items after it keep it so
  pub extended_fits : (old new : CacheState K V S) (item : K × V) (items : List (K × V))
      → AcceptsAll (InsertsPairIn eq) old (item ∷ items) new
      → IsWithin new 0
  extended_fits old new p items s =
      extended_within s.0 new items 0 s.3 (within-inserted old s.0 eq p.0 p.1 s.1 s.2)

  pub extended_stopped : (old new : CacheState K V S) (items : List (K × V)) (taken : ℕ) (back : K × V)
      (left : List (K × V)) (s : StopsAt (InsertsPairIn eq) old items new taken back left)
      → (new.map.entries ≡ cache_extended eq old.map.entries old.cap s.before) × (back ≡ s.item)
  extended_stopped old new items taken back left s = (
    s.refused.map.grows.entries ∙ extended_entries old s.between s.before s.accepted,
    s.refused.map.handed_back,
  )
