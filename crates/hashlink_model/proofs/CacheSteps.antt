-- Consequences of the steps between two states of a cache.
use Rattle.hashlink_model.proofs.Names.{◌≡◌, Bool, [], ◌∷◌, ◌++◌, length, Option, None, Some, Ok, Err, sym}
use Rattle.hashlink_model.proofs.Names.{ap, ◌∙◌, MatchOption, Result, refl, option_map_or, lookup, put}
use Rattle.hashlink_model.proofs.Names.{without, stored_key, MapState, CacheState, cache_use, CacheInserts}
use Rattle.hashlink_model.proofs.{Names.{CacheGets, last_entries, cache_put}, Puts.put_back}
use Rattle.hashlink_model.{specs.Cache.{cache_get, InsertsLast, CacheUses}, proofs.Afterwards.moved-there}

-- an insert at the end
module _ {K V S : Type 0} (eq : K → K → Bool) (old new : MapState K V S) (k : K) (v : V) where
  pub put_entries : (w : Option V) → InsertsLast eq k v w old new
      → new.entries ≡ put eq old.entries k v (length old.entries)
  put_entries None s = s.adds.entries
  put_entries (Some x) s = s.puts.entries

  pub put_answer : (w : Option V) → InsertsLast eq k v w old new → w ≡ lookup (eq k) old.entries
  put_answer None s = sym s.absent
  put_answer (Some x) s = sym s.old_value

module _ {K V S : Type 0} (eq : K → K → Bool) (old new : CacheState K V S) (k : K) (v : V) where
  pub inserts_answer : (w : Option V) → CacheInserts eq old new k v (Ok w) → w ≡ lookup (eq k) old.map.entries
  inserts_answer w s = put_answer eq old.map s.map.between k v w s.map.inserts

  pub inserts_entries : (w : Option V) → CacheInserts eq old new k v (Ok w)
      → new.map.entries ≡ cache_put eq old.map.entries old.cap k v
  inserts_entries w s =
      s.map.fits.entries
      ∙ ap (λ es. last_entries es old.cap) (put_entries eq old.map s.map.between k v w s.map.inserts)

  pub inserts_refused : (pair : K × V) → CacheInserts eq old new k v (Err pair)
      → (new.map.entries ≡ old.map.entries) × (new.map.spare ≡ old.map.spare)
      × (lookup (eq k) old.map.entries ≡ None) × (old.map.spare ≡ 0)
  inserts_refused pair s =
      (s.map.grows.entries, s.map.grows.spare, s.map.may_refuse.absent, s.map.may_refuse.no_spare)

module _ {K V S : Type 0} (eq : K → K → Bool) (old new : CacheState K V S) (k : K) where
  pub gets_hit : (w : V) → CacheGets eq old new k (Some w)
      → new.map.entries ≡ without eq old.map.entries k ++ (stored_key eq old.map.entries k, w) ∷ []
  gets_hit w s =
      s.map.step.entries ∙ moved-there eq old.map.entries k (length old.map.entries) w (sym s.map.answer)
      ∙ put_back eq old.map.entries k w

  pub gets_miss : CacheGets eq old new k None → new.map ≡ old.map
  gets_miss s = s.map.step

-- ---- a use

module _ {K V S : Type 0} (eq : K → K → Bool) (old new : CacheState K V S) (k : K) (v : V) where
  uses_by : (o w : Option V) → lookup (eq k) old.map.entries ≡ o
      → MatchOption o (CacheInserts eq old new k v (Ok w))
      (λ x. (◌≡◌ {A = Result (Option V) (K × V)} (Ok w) (Ok (Some x))) × CacheGets eq old new k (Some x))
      → (w ≡ o) × (new.map.entries
      ≡ option_map_or (λ x. cache_get eq old.map.entries k) o (cache_put eq old.map.entries old.cap k v))
  uses_by None w l s = (inserts_answer eq old new k v w s ∙ l, inserts_entries eq old new k v w s)
  uses_by (Some x) w l s = (cc (s.0), s.1.map.step.entries)

  pub uses_entries : (w : Option V) → CacheUses eq old new k v (Ok w)
      → (w ≡ lookup (eq k) old.map.entries) × (new.map.entries ≡ cache_use eq old.map.entries old.cap k v)
  uses_entries w s = uses_by (lookup (eq k) old.map.entries) w refl s
