-- The curve of mapped keys, if the map keeps keys distinct.
use Rattle.hashlink_curve.proofs.Names.{◌≡◌, ℕ, ◌+◌, Bool, true, ◌&&◌, ◌||◌, cond, List, [], ◌∷◌, ◌++◌}
use Rattle.hashlink_curve.proofs.Names.{length, drop, nat_lt, ◌-◌, refl, sym, ap, ap₂, ◌∙◌, subst, arith, sum}
use Rattle.hashlink_curve.proofs.Names.{AllZip, after_last, is_member, unique_keys, map-append, length-map}
use Rattle.hashlink_curve.proofs.Names.{reuse_distance, cache_misses_from, CurveState, Counted}
use Rattle.std.{proofs.Common.{map, not, reverse}, specs.List.{prefix_len, suffix_len}}
use Rattle.std.proofs.lemmas.List.{drop-map, reverse-append}

module _ {K L : Type 0} (f : K → L) (eq : K → K → Bool) (seen : L → L → Bool)
    (same : (a b : K) → eq a b ≡ seen (f a) (f b)) where
  is_member-map : (xs : List K) (q : K) → is_member eq xs q ≡ is_member seen (map f xs) (f q)
  is_member-map [] q = refl
  is_member-map (x ∷ xs) q = ap₂ (λ a b. a || b) (same q x) (is_member-map xs q)

  unique_keys-map : (xs : List K) → map f (unique_keys eq xs) ≡ unique_keys seen (map f xs)
  unique_keys-map [] = refl
  unique_keys-map (x ∷ xs) = grind (arith, is_member-map xs x, unique_keys-map xs)

  map-reverse : (xs : List K) → map f (reverse xs) ≡ reverse (map f xs)
  map-reverse [] = refl
  map-reverse (x ∷ xs) =
      ap (map f) (reverse-append (x ∷ []) xs) ∙ map-append f (reverse xs) (x ∷ [])
      ∙ ap (λ zs. zs ++ f x ∷ []) (map-reverse xs) ∙ sym (reverse-append (f x ∷ []) (map f xs))

  prefix_len-map : (q : K) (xs : List K)
      → prefix_len (λ x. not (eq q x)) xs ≡ prefix_len (λ y. not (seen (f q) y)) (map f xs)
  prefix_len-map q [] = refl
  prefix_len-map q (x ∷ xs) = ap₂ (λ b n. cond (not b) (1 + n) 0) (same q x) (prefix_len-map q xs)

  after_last-map : (q : K) (xs : List K) → map f (after_last (eq q) xs) ≡ after_last (seen (f q)) (map f xs)
  after_last-map q xs =
      sym (drop-map f (length xs - suffix_len (λ x. not (eq q x)) xs) xs)
      ∙ ap₂ (λ m n. drop (m - n) (map f xs)) (sym (length-map xs f))
      (prefix_len-map q (reverse xs) ∙ ap (prefix_len (λ y. not (seen (f q) y))) (map-reverse xs))

  reuse_distance-map : (used : List K) (k : K)
      → reuse_distance eq used k ≡ reuse_distance seen (map f used) (f k)
  reuse_distance-map used k =
      sym (length-map (unique_keys eq (after_last (eq k) used)) f)
      ∙ ap length (unique_keys-map (after_last (eq k) used) ∙ ap (unique_keys seen) (after_last-map k used))

  misses_from-map : (c : ℕ) (before used : List K)
      → cache_misses_from eq c before used ≡ cache_misses_from seen c (map f before) (map f used)
  misses_from-map c before [] = refl
  misses_from-map c before (k ∷ used) =
      ap₂ (λ m n. m + n)
      (ap₂ (λ b n. cond (b && nat_lt n c) 0 1) (is_member-map before k) (reuse_distance-map before k))
      (misses_from-map c (before ++ k ∷ []) used
      ∙ ap (λ zs. cache_misses_from seen c zs (map f used)) (map-append f before (k ∷ [])))

  zip-map : (xs ys : List K) → AllZip (λ a b. eq a b ≡ true) xs ys
      → AllZip (λ a b. seen a b ≡ true) (map f xs) (map f ys)
  zip-map [] [] z = z
  zip-map [] (y ∷ ys) z = z
  zip-map (x ∷ xs) [] z = z
  zip-map (x ∷ xs) (y ∷ ys) z = (sym (same x y) ∙ z.0, zip-map xs ys z.1)

  pub Counted-map : (used : List K) (s : CurveState K) → Counted eq used s
      → Counted seen (map f used) (record { keys = map f s.keys; reuses = s.reuses; reserved = s.reserved })
  Counted-map used s h =
      record {
        keys = subst (AllZip (λ a b. seen a b ≡ true) (map f s.keys)) (unique_keys-map used)
            (zip-map s.keys (unique_keys eq used) h.keys);
        misses = λ c. ap (λ n. n + sum (drop c s.reuses)) (length-map s.keys f) ∙ h.misses c
            ∙ misses_from-map c [] used;
      }
