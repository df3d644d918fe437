-- An insert that returns the pair that leaves.
use Rattle.std.specs.Prelude.{◌≡◌, ℕ, zero, suc, ◌-◌, ◌<◌, Bool, List, [], ◌∷◌, length, take, Option, None}
use Rattle.std.specs.{Prelude.{Some, MatchOption, Ok}, Map.lookup, Option.{option_map, option_or}}
use Rattle.std.proofs.Common.{refl, ap, ap₂, sym, subst, ◌∙◌, arith}
use Rattle.hashlink_model.specs.{Cache.{CacheState, KeepsLast}, Entries.{place_of, put}, Entry.InsertsValue}
use Rattle.hashlink_model.specs.{MapState.{MapState, Inserts, AddsEntry, PutsEntry}, Walk.first_of}
use Rattle.hashlink_model.proofs.CacheSteps.{put_entries}
use Rattle.hashlink_core.proofs.AtKey.{inserted-key}
use Rattle.hashlink_lru.{specs.Evicted.{evicted_by, evicted_entries, Pushes}, proofs.Evicting.named_parts}

first_of-take : {X : Type 0} (n : ℕ) (xs : List X) → 0 < n → first_of (take n xs) ≡ first_of xs
first_of-take zero xs l = absurd (omega arith)
first_of-take (suc n) [] l = refl
first_of-take (suc n) (x ∷ xs) l = refl

-- ---- the pair that leaves

module _ {K V S : Type 0} (eq : K → K → Bool) (old new : CacheState K V S) (k : K) (v : V) where
  -- what a push of an absent key returns
  pub pushes_named : (out : Option (K × V)) (e : K × V) → Pushes eq old new k v (Ok out)
      → evicted_by (eq k) old.map.entries old.cap ≡ Some e → lookup (eq k) old.map.entries ≡ None
      → out ≡ Some e
  pushes_named out e s n l =
      let all = put eq old.map.entries k v (length old.map.entries) in
      let p = named_parts eq old.map.entries old.cap k v e n in
      let some : 0 < length all - old.cap = omega (arith, p.2) in
      s.left ∙ ap (λ o. option_or (option_map (λ w. (k, w)) o) (first_of (evicted_entries all old.cap))) l
      ∙ first_of-take (length all - old.cap) all some ∙ ap first_of p.1

  -- a push, from the map's insert and what makes room after it
  pub pushes : (between : MapState K V S) (out first : Option (K × V))
      → Inserts eq old.map between k v (length old.map.entries) (Ok (lookup (eq k) old.map.entries))
      → out ≡ option_map (λ w. (k, w)) (lookup (eq k) old.map.entries)
      → KeepsLast between new.map old.cap → new.cap ≡ old.cap
      → first ≡ first_of (evicted_entries between.entries old.cap)
      → Pushes eq old new k v (Ok (option_or out first))
  pushes between out first s replaced keeps cap named =
      record {
        inserts =
            record { map = record { between = between; inserts = s; fits = keeps }; cap = cap };
        left =
            ap₂ option_or replaced (named ∙ ap (λ es. first_of (evicted_entries es old.cap))
            (put_entries eq old.map between k v (lookup (eq k) old.map.entries) s));
      }

-- the map's insert of a present key, at its entry
pub put_at : {K V S : Type 0} (eq : K → K → Bool) (old new : MapState K V S) (k : K) (j : ℕ)
    → place_of (eq k) old.entries ≡ Some j → (v w : V) → InsertsValue old new j v w
    → Inserts eq old new k v (length old.entries) (Ok (lookup (eq k) old.entries))
put_at eq old new k j p v w s =
    let puts = inserted-key eq old new k j p v w s in
    subst (λ o. MatchOption o (AddsEntry eq old new k v (length old.entries))
    (PutsEntry eq old new k v (length old.entries))) (sym puts.old_value) puts
