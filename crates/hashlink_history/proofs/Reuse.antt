-- A cache of capacity c holds the last c used keys. So it holds a key exactly as long as fewer than c others
-- were used since.
use Rattle.std.proofs.Common.{◌≡◌, ℕ, ◌-◌, Bool, true, false, ◌&&◌, List, [], ◌∷◌, ◌++◌, length, nat_lt}
use Rattle.std.proofs.Common.{is_some, None, Some, refl, sym, ap, subst₂, ◌∙◌, inl, inr, subst, arith}
use Rattle.std.{proofs.Common.length-append, specs.Cmp.IsEquivalence, specs.Option.option_map_or}
use Rattle.std.specs.{List.AllZip, Map.lookup, Set.{is_member, remove_key, distinct_count}}
use Rattle.std.proofs.{lemmas.Bool.cases_lt, Math.Seq.drop-nil}
use Rattle.hashlink_model.proofs.Caches.{front_evicted-within, front_evicted-above, last_entries-within}
use Rattle.hashlink_model.{specs.Entries.{put, without, stored_key}, proofs.Puts.{put_back, put_back_absent}}
use Rattle.hashlink_model.specs.Cache.{front_evicted, cache_put, cache_get, cache_use}
use Rattle.hashlink_model.proofs.{Distinct.answers_alike, Finds.stored_key-equal, Caches.cache_put-evicts}
use Rattle.hashlink_model.proofs.{Splits.none_from_lookup, Afterwards.{length-put_there, moved-there}}
use Rattle.hashlink_history.proofs.Recency.{zip_push, zip_drop_one, zip_length, is_recent, recent_keys-there}
use Rattle.hashlink_history.specs.History.{reuse_distance, recent_keys, HoldsRecent}
use Rattle.hashlink_history.proofs.Recency.{recent_keys-full, recent_keys-room, length-recent_keys}

module _ {K V : Type 0} (eq : K → K → Bool) (laws : IsEquivalence eq) where
  pub found_is_member : (k : K) (es : List (K × V)) (ks : List K) → AllZip (λ e q. eq e.0 q ≡ true) es ks
      → is_some (lookup (eq k) es) ≡ is_member eq ks k
  found_is_member k [] [] z = refl
  found_is_member k [] (q ∷ ks) z = absurd z
  found_is_member k (e ∷ es) [] z = absurd z
  found_is_member k (e ∷ es) (q ∷ ks) z =
      grind (arith, found_is_member k es ks z.1, answers_alike eq laws k e.0 q z.0)

  zip_removed : (k : K) (es : List (K × V)) (ks : List K) → AllZip (λ e q. eq e.0 q ≡ true) es ks
      → AllZip (λ e q. eq e.0 q ≡ true) (without eq es k) (remove_key (eq k) ks)
  zip_removed k [] [] z = z
  zip_removed k [] (q ∷ ks) z = absurd z
  zip_removed k (e ∷ es) [] z = absurd z
  zip_removed k (e ∷ es) (q ∷ ks) z =
      grind (arith, answers_alike eq laws k e.0 q z.0, z, zip_removed k es ks z.1)

  -- ---- one more use

  -- a use of a held key: it becomes the last, with any value
  pub held_back : (c : ℕ) (used : List K) (es : List (K × V)) (k : K) (v w : V) → HoldsRecent eq c used es
      → lookup (eq k) es ≡ Some w → HoldsRecent eq c (used ++ k ∷ []) (put eq es k v (length es))
  held_back c used es k v w h l =
      let m : is_member eq (recent_keys eq c used) k ≡ true
      = sym (found_is_member k es (recent_keys eq c used) h) ∙ ap is_some l in
      subst₂ (AllZip (λ e q. eq e.0 q ≡ true)) (sym (put_back eq es k v))
      (sym (recent_keys-there eq laws c used k m))
      (zip_push _ (without eq es k) (remove_key (eq k) (recent_keys eq c used)) (stored_key eq es k, v) k
      (zip_removed k es (recent_keys eq c used) h)
      (laws.symm (stored_key eq es k) k ∙ stored_key-equal eq laws k es))

  -- a use of a key that is not held: it becomes the last, and if there are c keys already, the first leaves
  held_new : (c : ℕ) (used : List K) (es : List (K × V)) (k : K) (v : V) → HoldsRecent eq c used es
      → lookup (eq k) es ≡ None → HoldsRecent eq c (used ++ k ∷ []) (front_evicted (es ++ (k, v) ∷ []) c)
  held_new c used es k v h l =
      let m : is_member eq (recent_keys eq c used) k ≡ false
      = sym (found_is_member k es (recent_keys eq c used) h) ∙ ap is_some l in
      let long = zip_length _ es (recent_keys eq c used) h in
      let count = length-recent_keys eq laws c used in
      let more = length-append es ((k, v) ∷ []) in
      let pushed = zip_push (λ e q. eq e.0 q ≡ true) es (recent_keys eq c used) (k, v) k h (laws.refl k) in
      elim (cases_lt (distinct_count eq used) c) [
        | inl r ↦ subst₂ (AllZip (λ e q. eq e.0 q ≡ true))
            (sym (front_evicted-within (es ++ (k, v) ∷ []) c (omega arith)))
            (sym (recent_keys-room eq laws c used k m r)) pushed
        | inr r ↦ subst₂ (AllZip (λ e q. eq e.0 q ≡ true))
            (sym (front_evicted-above (es ++ (k, v) ∷ []) c (omega arith)))
            (sym (recent_keys-full eq laws c used k m r))
            (zip_drop_one _ (es ++ (k, v) ∷ []) (recent_keys eq c used ++ k ∷ []) pushed)
      ]

  pub HoldsRecent-cache_put : (c : ℕ) (used : List K) (es : List (K × V)) (k : K) (v : V)
      → HoldsRecent eq c used es → HoldsRecent eq c (used ++ k ∷ []) (cache_put eq es c k v)
  HoldsRecent-cache_put c used es k v h =
      let long = zip_length (λ e q. eq e.0 q ≡ true) es (recent_keys eq c used) h in
      let count = length-recent_keys eq laws c used in
      let R = HoldsRecent eq c (used ++ k ∷ []) in
      elim (lookup (eq k) es) as (λ o. lookup (eq k) es ≡ o → R (cache_put eq es c k v)) [
        | None ↦ λ l. subst R (sym (cache_put-evicts eq es c k v (omega arith)
            ∙ ap (λ zs. front_evicted zs c) (put_back_absent eq es k v (none_from_lookup (eq k) es l))))
            (held_new c used es k v h l)
        | Some w ↦ λ l. subst R (sym (last_entries-within (put eq es k v (length es)) c
            (omega (arith, length-put_there eq es k v (length es) w l)))) (held_back c used es k v w h l)
      ] refl

  pub HoldsRecent-cache_use : (c : ℕ) (used : List K) (es : List (K × V)) (k : K) (v : V)
      → HoldsRecent eq c used es → HoldsRecent eq c (used ++ k ∷ []) (cache_use eq es c k v)
  HoldsRecent-cache_use c used es k v h =
      let R = HoldsRecent eq c (used ++ k ∷ []) in
      elim (lookup (eq k) es)
      as (λ o. lookup (eq k) es ≡ o → R (option_map_or (λ w. cache_get eq es k) o (cache_put eq es c k v))) [
        | None ↦ λ l. HoldsRecent-cache_put c used es k v h
        | Some w ↦ λ l. subst R (sym (moved-there eq es k (length es) w l)) (held_back c used es k w w h l)
      ] refl

  -- a key is held exactly if it was used and fewer than c others were used since
  pub held_exactly : (c : ℕ) (used : List K) (es : List (K × V)) (k : K) → HoldsRecent eq c used es
      → is_some (lookup (eq k) es) ≡ (is_member eq used k && nat_lt (reuse_distance eq used k) c)
  held_exactly c used es k h = found_is_member k es (recent_keys eq c used) h ∙ is_recent eq laws c used k

pub HoldsRecent-start : {K : Type 0} (V : Type 0) (eq : K → K → Bool) (c : ℕ) → HoldsRecent eq {V = V} c [] []
HoldsRecent-start {K} V eq c =
    subst (AllZip (λ (e : K × V) k. eq e.0 k ≡ true) []) (sym (drop-nil (0 - c))) tt
