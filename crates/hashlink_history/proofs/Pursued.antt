-- The misses of a cache that always has c keys are bounded by the misses of any schedule, by comparing their
-- steps one by one.
use Rattle.std.proofs.Common.{◌≡◌, ℕ, ◌+◌, ◌-◌, ◌*◌, ◌≤◌, Bool, true, false, cond, List, [], ◌∷◌, ◌++◌, drop}
use Rattle.std.{proofs.Common.{length, refl, sym, ap, ◌∙◌, arith, length-append}, specs.Cmp.IsEquivalence}
use Rattle.std.specs.{List.IsDistinct, Set.{is_member, remove_key}}
use Rattle.std.proofs.lemmas.Map.{Keys.{IsDistinct-push, IsDistinct-tail}, Made.length-remove_key}
use Rattle.hashlink_history.proofs.Potential.{triangle, outside, ranks, ranks-at_least, outside-at_least}
use Rattle.hashlink_history.proofs.Pursuit.{triangle_mono, Follows, follow, key_at, removed_gone}
use Rattle.hashlink_history.{specs.History.{IsSchedule, misses_from}, proofs.Pursuit.removed_distinct}
use Rattle.hashlink_history.proofs.Potential.{outside-one_more, ranks-hit, ranks-miss}
use Rattle.hashlink_model.proofs.Members.{is_member-equal}

sums : (a l m r s t u c p q : ℕ) → a * l + s ≤ r → r ≤ t + p → a * m + u ≤ c * q + s → (n : ℕ) → p ≤ c * n
    → a * (l + m) + u ≤ c * (n + q) + t
sums a l m r s t u c p q h1 h2 h3 n h4 = omega arith

module _ {X : Type 0} (eq : X → X → Bool) (laws : IsEquivalence eq) where
  -- a full cache after a use: the key becomes the last, and if it is new, the first key leaves
  abbrev pub full_step : List X → X → List X
  full_step xs k = cond (is_member eq xs k) (remove_key (eq k) xs ++ k ∷ []) (drop 1 xs ++ k ∷ [])

  abbrev pub full_misses : List X → List X → ℕ
  full_misses xs [] = 0
  full_misses xs (k ∷ used) = cond (is_member eq xs k) 0 1 + full_misses (full_step xs k) used

  pub record FullStep (h c : ℕ) (held xs : List X) (k : X) (next : List X) (missed : ℕ) : Type 0 where
    pub size : length next ≡ c
    pub unequal : IsDistinct eq next
    pub nearer : (c + 1 - h) * missed + ranks eq 0 held next ≤ ranks eq 0 held xs

  hit_step : (h c : ℕ) (held xs : List X) (k : X) → IsDistinct eq xs → length xs ≡ c
      → is_member eq held k ≡ true → is_member eq xs k ≡ true
      → FullStep h c held xs k (remove_key (eq k) xs ++ k ∷ []) 0
  hit_step h c held xs k d l m n =
      let s = key_at eq laws xs k n in
      let distinct = removed_distinct eq laws k xs d in
      let moved = ranks-hit eq laws held s.0 s.1 s.2 k
      (sym (is_member-equal eq laws held k s.1 s.3.equal) ∙ m) m in
      let new = ap (λ zs. ranks eq 0 held (zs ++ k ∷ [])) s.3.rest in
      let old = ap (ranks eq 0 held) s.3.is in
      record {
        size = omega (arith, length-remove_key (eq k) xs n, length-append (remove_key (eq k) xs) (k ∷ []));
        unequal = IsDistinct-push laws (remove_key (eq k) xs) k distinct (removed_gone eq laws xs k d);
        nearer = omega arith;
      }

  miss_step : (h c : ℕ) (held : List X) (x : X) (xs : List X) (k : X) → IsDistinct eq (x ∷ xs)
      → length (x ∷ xs) ≡ c → length held ≤ h → is_member eq held k ≡ true → is_member eq (x ∷ xs) k ≡ false
      → FullStep h c held (x ∷ xs) k (xs ++ k ∷ []) 1
  miss_step h c held x xs k d l f m n =
      let more = length-append xs (k ∷ []) in
      let lost = ranks-miss eq laws held x xs k m in
      let out = outside-one_more eq laws held (x ∷ xs) k d m n in
      record {
        size = omega arith;
        unequal = IsDistinct-push laws xs k (IsDistinct-tail eq x xs d) (grind (arith, n));
        nearer = omega arith;
      }

  step_by : (h c : ℕ) (held xs : List X) (k : X) (b : Bool) → is_member eq xs k ≡ b
      → IsDistinct eq xs → length xs ≡ c → 1 ≤ c → length held ≤ h → is_member eq held k ≡ true
      → FullStep h c held xs k (cond b (remove_key (eq k) xs ++ k ∷ []) (drop 1 xs ++ k ∷ [])) (cond b 0 1)
  step_by h c held xs k true n d l p f m = hit_step h c held xs k d l m n
  step_by h c held [] k false n d l p f m = absurd (omega arith)
  step_by h c held (x ∷ xs) k false n d l p f m = miss_step h c held x xs k d l f m n

  least : (h c : ℕ) (held xs : List X) → IsDistinct eq xs → length xs ≡ c → length held ≤ h
      → triangle (c - h) ≤ ranks eq 0 held xs
  least h c held xs d l f =
      let out = outside-at_least eq laws held xs d in
      omega (arith, ranks-at_least eq held xs 0, triangle_mono (c - h) (outside eq held xs) (omega arith))

  missed_by : (c n : ℕ) (b d : Bool) → n ≡ c → (b ≡ true → d ≡ true) → cond d 0 n ≤ c * cond b 0 1
  missed_by c n b d e f = grind (arith, e, f)

  -- from any two states
  pub pursued : (h c : ℕ) → 1 ≤ c → (used : List X) (schedule : List (List X)) (before held xs : List X)
      → Follows eq laws h before held → IsSchedule eq h before used schedule → IsDistinct eq xs
      → length xs ≡ c → (c + 1 - h) * full_misses xs used + triangle (c - h)
      ≤ c * misses_from eq before used schedule + ranks eq 0 held xs
  pursued h c p [] [] before held xs f s d l = let a = least h c held xs d l f.size in omega arith
  pursued h c p [] (after ∷ schedule) before held xs f s d l = absurd s
  pursued h c p (k ∷ used) [] before held xs f s d l = absurd s
  pursued h c p (k ∷ used) (after ∷ schedule) before held xs f s d l =
      let on = follow eq laws h before after held k f s.0 in
      let step = step_by h c on.0 xs k (is_member eq xs k) refl d l p on.1.follows.size on.1.has in
      let rest = pursued h c p used schedule after on.0 (full_step xs k) on.1.follows s.1
      step.unequal step.size in
      sums (c + 1 - h) (cond (is_member eq xs k) 0 1) (full_misses (full_step xs k) used) (ranks eq 0 on.0 xs)
      (ranks eq 0 on.0 (full_step xs k)) (ranks eq 0 held xs) (triangle (c - h)) c
      (cond (is_member eq held k) 0 (length xs)) (misses_from eq after used schedule) step.nearer
      (on.1.near xs d)
      rest (cond (is_member eq before k) 0 1)
      (missed_by c (length xs) (is_member eq before k) (is_member eq held k) l (f.covers k))
