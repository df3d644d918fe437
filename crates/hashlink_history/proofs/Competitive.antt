-- The misses of a cache compared with the misses of any schedule, both starting empty. For the proof the
-- cache is padded with keys that are never used.
use Rattle.std.proofs.Common.{◌≡◌, ℕ, zero, suc, ◌+◌, ◌-◌, ◌*◌, ◌≤◌, ◌<◌, Bool, true, false, cond, ◌||◌, ◌&&◌}
use Rattle.std.proofs.Common.{List, [], ◌∷◌, ◌++◌, map, length, take, drop, nat_lt, nat_eq, refl, sym, ap}
use Rattle.std.proofs.Common.{ap₂, ◌∙◌, ◌⊎◌, inl, inr, arith, append_assoc, length-append, length-take}
use Rattle.std.{proofs.Common.{take-append-drop, le_refl, true≢false, append-nil}, specs.Map.keys_of}
use Rattle.std.specs.{Cmp.{IsEquivalence, nat_eq_equiv}, List.{AllByRecursion, IsDistinct}}
use Rattle.std.{specs.Set.{is_member, remove_key, distinct_count}, proofs.lemmas.Bool.{cases_lt, ne_eqb}}
use Rattle.std.proofs.lemmas.{List.Elements.recursion_from_All, Map.Made.{All-is_member, length-remove_key}}
use Rattle.std.proofs.{lemmas.List.{length-map, map-append}, Math.Seq.drop-nil}
use Rattle.hashlink_history.specs.History.{IsSchedule, Schedule, misses, misses_from, cache_misses}
use Rattle.hashlink_history.proofs.Recency.{remove_key-right, recent_keys-there, recent_keys-full, is_recent}
use Rattle.hashlink_history.specs.History.{cache_misses_from, recent_keys, reuse_distance, HoldsRecent}
use Rattle.hashlink_history.proofs.{Recency.{recent_keys-room, length-recent_keys}, Pursuit.Follows}
use Rattle.hashlink_history.proofs.Reuse.{held_exactly, HoldsRecent-cache_use, HoldsRecent-start}
use Rattle.hashlink_history.proofs.Potential.{triangle, ranks, ranks-append, ranks-held, ranks-at_most}
use Rattle.hashlink_history.proofs.Pursued.{full_misses, pursued}
use Rattle.hashlink_model.specs.Cache.{cache_use, missed_uses}
use Rattle.hashlink_model.proofs.Members.{is_member-append, none_from_is_member}

-- ---- keys, and numbers besides them that no history has

module _ {K : Type 0} (eq : K → K → Bool) where
  abbrev pub padded_eq : K ⊎ ℕ → K ⊎ ℕ → Bool
  padded_eq (inl a) (inl b) = eq a b
  padded_eq (inl a) (inr j) = false
  padded_eq (inr i) (inl b) = false
  padded_eq (inr i) (inr j) = nat_eq i j

  module _ (laws : IsEquivalence eq) where
    padded_refl : (x : K ⊎ ℕ) → padded_eq x x ≡ true
    padded_refl (inl a) = laws.refl a
    padded_refl (inr i) = nat_eq_equiv.refl i

    padded_symm : (x y : K ⊎ ℕ) → padded_eq x y ≡ padded_eq y x
    padded_symm (inl a) (inl b) = laws.symm a b
    padded_symm (inl a) (inr j) = refl
    padded_symm (inr i) (inl b) = refl
    padded_symm (inr i) (inr j) = nat_eq_equiv.symm i j

    padded_congr : (x y z : K ⊎ ℕ) → padded_eq x y ≡ true → padded_eq x z ≡ padded_eq y z
    padded_congr (inl a) (inl b) (inl c) t = laws.congr a b c t
    padded_congr (inl a) (inl b) (inr k) t = refl
    padded_congr (inl a) (inr j) z t = absurd (true≢false (sym t))
    padded_congr (inr i) (inl b) z t = absurd (true≢false (sym t))
    padded_congr (inr i) (inr j) (inl c) t = refl
    padded_congr (inr i) (inr j) (inr k) t = nat_eq_equiv.congr i j k t

    pub padded_equiv : IsEquivalence padded_eq
    padded_equiv = record { refl = padded_refl; symm = padded_symm; congr = padded_congr }

abbrev pub real : {K : Type 0} → List K → List (K ⊎ ℕ)
real ks = map (λ k. inl k) ks

abbrev pub padding : (K : Type 0) → ℕ → List (K ⊎ ℕ)
padding K zero = []
padding K (suc n) = inr n ∷ padding K n

module _ {K : Type 0} (eq : K → K → Bool) where
  length_padding : (n : ℕ) → length (padding K n) ≡ n
  length_padding zero = refl
  length_padding (suc n) = ap suc (length_padding n)

  drop_padding : (m n : ℕ) → drop m (padding K n) ≡ padding K (n - m)
  drop_padding zero n = let same : n ≡ n - 0 = omega arith in ap (padding K) same
  drop_padding (suc m) zero = let none : 0 ≡ 0 - suc m = omega arith in ap (padding K) none
  drop_padding (suc m) (suc n) =
      let same : n - m ≡ suc n - suc m = omega arith in drop_padding m n ∙ ap (padding K) same

  member_padding : (k : K) (n : ℕ) → is_member (padded_eq eq) (padding K n) (inl k) ≡ false
  member_padding k zero = refl
  member_padding k (suc n) = member_padding k n

  above_padding : (m n : ℕ) → n ≤ m → AllByRecursion (λ y. padded_eq eq (inr m) y ≡ false) (padding K n)
  above_padding m zero l = tt
  above_padding m (suc n) l = (ne_eqb m n (λ e. omega arith), above_padding m n (omega arith))

  distinct_padding : (n : ℕ) → IsDistinct (padded_eq eq) (padding K n)
  unfolding IsDistinct
  distinct_padding zero = tt
  distinct_padding (suc n) = (above_padding n n (le_refl n), distinct_padding n)

  member_real : (ks : List K) (k : K) → is_member (padded_eq eq) (real ks) (inl k) ≡ is_member eq ks k
  member_real [] k = refl
  member_real (x ∷ ks) k = ap (λ b. eq k x || b) (member_real ks k)

  remove_real : (ks : List K) (k : K) → remove_key (padded_eq eq (inl k)) (real ks)
      ≡ real (remove_key (eq k) ks)
  remove_real [] k = refl
  remove_real (x ∷ ks) k = grind (arith, remove_real ks k)

  -- ---- the schedule is the same

  others_real : (before : List K) (k : K) (after : List K)
      → AllByRecursion (λ q. (eq k q || is_member eq before q) ≡ true) after
      → AllByRecursion (λ q. (padded_eq eq (inl k) q || is_member (padded_eq eq) (real before) q) ≡ true)
      (real after)
  others_real before k [] a = tt
  others_real before k (x ∷ after) a =
      (ap (λ b. eq k x || b) (member_real before x) ∙ a.0, others_real before k after a.1)

  schedule_real : (h : ℕ) (before used : List K) (held : List (List K)) → IsSchedule eq h before used held
      → IsSchedule (padded_eq eq) h (real before) (real used) (map (λ s. real s) held)
  schedule_real h before [] [] s = s
  schedule_real h before [] (after ∷ held) s = s
  schedule_real h before (k ∷ used) [] s = s
  schedule_real h before (k ∷ used) (after ∷ held) s = (
    record {
      size = (let pad : K → K ⊎ ℕ = λ x. inl x in omega (arith, length-map after pad, s.0.size));
      holds = member_real after k ∙ s.0.holds;
      others = others_real before k after s.0.others;
    },
    schedule_real h after used held s.1,
  )

  misses_real : (before used : List K) (held : List (List K))
      → misses_from (padded_eq eq) (real before) (real used) (map (λ s. real s) held)
      ≡ misses_from eq before used held
  misses_real before [] held = refl
  misses_real before (k ∷ used) [] = refl
  misses_real before (k ∷ used) (after ∷ held) =
      ap₂ (λ b n. cond b 0 1 + n) (member_real before k) (misses_real after used held)

  -- ---- a cache padded to c keys

  abbrev pub filled : ℕ → List K → List (K ⊎ ℕ)
  filled c ks = padding K (c - length ks) ++ real ks

module _ {K : Type 0} (eq : K → K → Bool) (laws : IsEquivalence eq) where
  member_filled : (c : ℕ) (ks : List K) (k : K) → is_member (padded_eq eq) (filled eq c ks) (inl k)
      ≡ is_member eq ks k
  member_filled c ks k =
      is_member-append (padded_eq eq) (padded_equiv eq laws) (padding K (c - length ks)) (real ks) (inl k)
      ∙ ap₂ ◌||◌ (member_padding eq k (c - length ks)) (member_real eq ks k)

  filled_hit : (c : ℕ) (ks : List K) (k : K) → is_member eq ks k ≡ true
      → remove_key (padded_eq eq (inl k)) (filled eq c ks) ++ inl k ∷ []
      ≡ filled eq c (remove_key (eq k) ks ++ k ∷ [])
  filled_hit c ks k m =
      let same : c - length ks ≡ c - length (remove_key (eq k) ks ++ k ∷ [])
      = omega (arith, length-remove_key (eq k) ks m, length-append (remove_key (eq k) ks) (k ∷ [])) in
      ap (λ zs. zs ++ inl k ∷ [])
      (remove_key-right (padded_eq eq) (padded_equiv eq laws) (inl k) (padding K (c - length ks)) (real ks)
      (none_from_is_member (padded_eq eq) (padded_equiv eq laws) (padding K (c - length ks)) (inl k)
      (member_padding eq k (c - length ks))))
      ∙ append_assoc (padding K (c - length ks)) (remove_key (padded_eq eq (inl k)) (real ks)) (inl k ∷ [])
      ∙ ap₂ (λ n zs. padding K n ++ zs) same (ap (λ zs. zs ++ inl k ∷ []) (remove_real eq ks k)
      ∙ sym (map-append (λ x. inl x) (remove_key (eq k) ks) (k ∷ [])))

  filled_room : (c : ℕ) (ks : List K) (k : K) → length ks < c
      → drop 1 (filled eq c ks) ++ inl k ∷ [] ≡ filled eq c (ks ++ k ∷ [])
  filled_room c ks k l =
      let more : c - length ks ≡ suc (c - length (ks ++ k ∷ [])) = omega (arith, length-append ks (k ∷ [])) in
      ap (λ n. drop 1 (padding K n ++ real ks) ++ inl k ∷ []) more
      ∙ append_assoc (padding K (c - length (ks ++ k ∷ []))) (real ks) (inl k ∷ [])
      ∙ ap (λ zs. padding K (c - length (ks ++ k ∷ [])) ++ zs) (sym (map-append (λ x. inl x) ks (k ∷ [])))

  filled_full : (c : ℕ) (ks : List K) (k : K) → length ks ≡ c → 1 ≤ c
      → drop 1 (filled eq c ks) ++ inl k ∷ [] ≡ filled eq c (drop 1 (ks ++ k ∷ []))
  filled_full c [] k l p = absurd (omega arith)
  filled_full c (x ∷ ks) k l p =
      let full : c - suc (length ks) ≡ 0 = omega arith in
      let full_after : c - length (ks ++ k ∷ []) ≡ 0 = omega (arith, length-append ks (k ∷ [])) in
      ap (λ n. drop 1 (padding K n ++ real (x ∷ ks)) ++ inl k ∷ []) full
      ∙ sym (map-append (λ x. inl x) ks (k ∷ []))
      ∙ ap (λ n. padding K n ++ real (ks ++ k ∷ [])) (sym full_after)

  -- one use: the padded cache takes the step that the recent keys take
  filled_step : (c : ℕ) (used : List K) (k : K) (b : Bool) → 1 ≤ c
      → is_member eq (recent_keys eq c used) k ≡ b
      → (distinct_count eq used < c) ⊎ (c ≤ distinct_count eq used)
      → cond b (remove_key (padded_eq eq (inl k)) (filled eq c (recent_keys eq c used)) ++ inl k ∷ [])
      (drop 1 (filled eq c (recent_keys eq c used)) ++ inl k ∷ [])
      ≡ filled eq c (recent_keys eq c (used ++ k ∷ []))
  filled_step c used k true p m o =
      filled_hit c (recent_keys eq c used) k m ∙ ap (filled eq c) (sym (recent_keys-there eq laws c used k m))
  filled_step c used k false p m (inl l) =
      let long = length-recent_keys eq laws c used in
      filled_room c (recent_keys eq c used) k (omega arith)
      ∙ ap (filled eq c) (sym (recent_keys-room eq laws c used k m l))
  filled_step c used k false p m (inr l) =
      let long = length-recent_keys eq laws c used in
      filled_full c (recent_keys eq c used) k (omega arith) p
      ∙ ap (filled eq c) (sym (recent_keys-full eq laws c used k m l))

  full_misses-filled : (c : ℕ) → 1 ≤ c → (used rest : List K)
      → full_misses (padded_eq eq) (padded_equiv eq laws) (filled eq c (recent_keys eq c used)) (real rest)
      ≡ cache_misses_from eq c used rest
  full_misses-filled c p used [] = refl
  full_misses-filled c p used (k ∷ rest) =
      let member = member_filled c (recent_keys eq c used) k in
      let step = ap
      (λ b. cond b (remove_key (padded_eq eq (inl k)) (filled eq c (recent_keys eq c used)) ++ inl k ∷ [])
      (drop 1 (filled eq c (recent_keys eq c used)) ++ inl k ∷ []))
      member ∙ filled_step c used k (is_member eq (recent_keys eq c used) k) p refl
      (cases_lt (distinct_count eq used) c) in
      ap₂ (λ b zs. cond b 0 1 + full_misses (padded_eq eq) (padded_equiv eq laws) zs (real rest))
      (member ∙ is_recent eq laws c used k) step
      ∙ ap (λ n. cond (is_member eq used k && nat_lt (reuse_distance eq used k) c) 0 1 + n)
      (full_misses-filled c p (used ++ k ∷ []) rest)

  -- ---- the start: a schedule that holds the newest h of the padding

  starts : (h : ℕ) → Follows (padded_eq eq) (padded_equiv eq laws) h [] (padding K h)
  starts h =
      record {
        size = omega (arith, length_padding eq h);
        unequal = distinct_padding eq h;
        covers = λ q m. absurd (true≢false (sym m));
      }

  start_ranks : (h c : ℕ) → h ≤ c → ranks (padded_eq eq) 0 (padding K h) (padding K c) ≤ triangle (c - h)
  start_ranks h c l =
      let n = c - h in
      let back : c - (c - h) ≡ h = omega arith in
      let rest : drop n (padding K c) ≡ padding K h = drop_padding eq n c ∙ ap (padding K) back in
      let split : take n (padding K c) ++ padding K h ≡ padding K c
      = ap (λ zs. take n (padding K c) ++ zs) (sym rest) ∙ take-append-drop n (padding K c) in
      let long : length (take n (padding K c)) ≡ n
      = omega (arith, length-take n (padding K c), length_padding eq c) in
      let whole = ap (ranks (padded_eq eq) 0 (padding K h)) (sym split) in
      let parts = ranks-append (padded_eq eq) 0 (padding K h) (take n (padding K c)) (padding K h) in
      let none = ranks-held (padded_eq eq) (0 + length (take n (padding K c))) (padding K h) (padding K h)
      (recursion_from_All _ (padding K h) (All-is_member (padded_equiv eq laws) (padding K h))) in
      omega (arith, ranks-at_most (padded_eq eq) (padding K h) (take n (padding K c)) 0, ap triangle long)

  -- whatever replacement policy a schedule of capacity h uses, the cache misses at most c / (c - h + 1) times
  -- as often
  pub competitive : (c h : ℕ) → 1 ≤ h → h ≤ c → (used : List K) (held : List (List K))
      → Schedule eq h used held → (c - h + 1) * cache_misses eq c used ≤ c * misses eq used held
  competitive c h p l used held s =
      let q : 1 ≤ c = omega arith in
      let run = pursued (padded_eq eq) (padded_equiv eq laws) h c q (real used) (map (λ x. real x) held) []
      (padding K h) (padding K c) (starts h) (schedule_real eq h [] used held s) (distinct_padding eq c)
      (length_padding eq c) in
      let begin = start_ranks h c l in
      let none : c - 0 ≡ c = omega arith in
      let empty : filled eq c (recent_keys eq c []) ≡ padding K c
      = ap (filled eq c) (drop-nil (0 - c)) ∙ ap (λ n. padding K n ++ []) none ∙ append-nil (padding K c) in
      let mine : full_misses (padded_eq eq) (padded_equiv eq laws) (padding K c) (real used)
      ≡ cache_misses eq c used
      = ap (λ zs. full_misses (padded_eq eq) (padded_equiv eq laws) zs (real used)) (sym empty)
      ∙ full_misses-filled c q [] used in
      let theirs = misses_real eq [] used held in
      ends (c - h + 1) (c + 1 - h) (full_misses (padded_eq eq) (padded_equiv eq laws)
      (padding K c) (real used)) (cache_misses eq c used) c _ (misses eq used held) (triangle (c - h)) _
      (omega arith) mine theirs run begin
    where
      ends : (a b m n d e f t r : ℕ) → a ≡ b → m ≡ n → e ≡ f → b * m + t ≤ d * e + r → r ≤ t → a * n ≤ d * f
      ends a b m n d e f t r h1 h2 h3 h4 h5 = rw (h1, ← h2, ← h3) (omega arith)

module _ {K V : Type 0} (eq : K → K → Bool) (laws : IsEquivalence eq) where
  -- a cache misses the uses that the history implies
  pub missed_uses-held : (c : ℕ) (used : List K) (es pairs : List (K × V)) → HoldsRecent eq c used es
      → missed_uses eq c es pairs ≡ cache_misses_from eq c used (keys_of pairs)
  missed_uses-held c used es [] h = refl
  missed_uses-held c used es (p ∷ pairs) h =
      ap₂ (λ b n. cond b 0 1 + n) (held_exactly eq laws c used es p.0 h)
      (missed_uses-held c (used ++ p.0 ∷ []) (cache_use eq es c p.0 p.1) pairs
      (HoldsRecent-cache_use eq laws c used es p.0 p.1 h))

  pub missed_uses-history : (c : ℕ) (pairs : List (K × V))
      → missed_uses eq c [] pairs ≡ cache_misses eq c (keys_of pairs)
  missed_uses-history c pairs = missed_uses-held c [] [] pairs (HoldsRecent-start V eq c)

pub ruleset schedules = (missed_uses-history, competitive)
