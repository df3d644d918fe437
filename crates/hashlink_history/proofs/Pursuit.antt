-- A cache that always has c keys, compared with a schedule of capacity h: the bound on its misses, from any
-- two states.
use Rattle.std.proofs.Common.{◌≡◌, ℕ, zero, suc, ◌+◌, ◌≤◌, ◌<◌, Bool, true, false, ◌||◌, cond, List, [], ◌∷◌}
use Rattle.std.proofs.Common.{◌++◌, length, refl, sym, ap, ◌⊎◌, inl, inr, arith, true≢false, zero-le}
use Rattle.std.{proofs.Common.{not-suc-le-zero, le_of_suc-le-suc}, specs.Cmp.IsEquivalence}
use Rattle.std.specs.{List.{AllByRecursion, IsDistinct}, Set.{is_member, remove_key}}
use Rattle.std.proofs.lemmas.{Bool.cases_lt, Map.Made.{length-le_from_is_member, length-remove_key}}
use Rattle.hashlink_history.specs.History.{MayHold}
use Rattle.hashlink_history.proofs.Potential.{triangle, ranks, one_more, ranks-fewer, ranks-all_but_one}
use Rattle.hashlink_model.proofs.Members.{is_member-equal, none_from_is_member, is_member_from_none}
use Rattle.hashlink_model.proofs.Distinct.{answers_alike}

pub triangle_mono : (m n : ℕ) → m ≤ n → triangle m ≤ triangle n
triangle_mono zero n l = zero-le
triangle_mono (suc m) zero l = absurd (not-suc-le-zero l)
triangle_mono (suc m) (suc n) l = omega (arith, triangle_mono m n (le_of_suc-le-suc l))

module _ {X : Type 0} (eq : X → X → Bool) (laws : IsEquivalence eq) where
  -- ---- a removed key

  removed_other : (x q : X) (xs : List X) → eq x q ≡ false → is_member eq (remove_key (eq x) xs) q
      ≡ is_member eq xs q
  removed_other x q [] n = refl
  removed_other x q (y ∷ xs) n = grind (arith, n, removed_other x q xs n, answers_alike eq laws x q y)

  removed_absent : (x q : X) (xs : List X) → is_member eq xs q ≡ false
      → is_member eq (remove_key (eq x) xs) q ≡ false
  removed_absent x q [] m = refl
  removed_absent x q (y ∷ xs) m = grind (arith, removed_absent x q xs)

  pub removed_distinct : (x : X) (xs : List X) → IsDistinct eq xs → IsDistinct eq (remove_key (eq x) xs)
  unfolding IsDistinct
  removed_distinct x [] d = d
  removed_distinct x (y ∷ xs) d =
      let none = none_from_is_member eq laws (remove_key (eq x) xs) y
      (removed_absent x y xs (is_member_from_none eq laws xs y d.0)) in
      elim (eq x y) as (λ b. IsDistinct eq (cond b xs (y ∷ remove_key (eq x) xs)))
      [ true ↦ d.1 | false ↦ (none, removed_distinct x xs d.1) ]

  -- ---- the place of a key

  pub record KeyAt (xs : List X) (k : X) (us : List X) (x : X) (vs : List X) : Type 0 where
    pub is : xs ≡ us ++ x ∷ vs
    pub equal : eq k x ≡ true
    pub rest : remove_key (eq k) xs ≡ us ++ vs

  pub key_at : (xs : List X) (k : X) → is_member eq xs k ≡ true
      → (us : List X) × (x : X) × (vs : List X) × KeyAt xs k us x vs
  key_at [] k m = absurd (true≢false (sym m))
  key_at (y ∷ xs) k m =
      elim (eq k y)
      as (λ b. eq k y ≡ b → (us : List X) × (x : X) × (vs : List X) × KeyAt (y ∷ xs) k us x vs) [
        | true ↦ λ t. ([], y, xs, record { is = refl; equal = t; rest = rw t refl })
        | false ↦ λ t. (
            let s = key_at xs k (grind (arith, m, t)) in
            let later : remove_key (eq k) (y ∷ xs) ≡ y ∷ (s.0 ++ s.2) = rw t (ap (λ r. y ∷ r) s.3.rest) in
            (y ∷ s.0, s.1, s.2, record { is = ap (λ r. y ∷ r) s.3.is; equal = s.3.equal; rest = later }))
      ] refl

  pub removed_gone : (xs : List X) (k : X) → IsDistinct eq xs → is_member eq (remove_key (eq k) xs) k ≡ false
  unfolding IsDistinct
  removed_gone [] k d = refl
  removed_gone (y ∷ xs) k d =
      let none = is_member_from_none eq laws xs y d.0 in
      grind (arith, none, removed_gone xs k d.1, is_member-equal eq laws xs k y)

  -- ---- a list that follows the schedule: it holds all keys that the schedule holds, and no more than it may
  -- hold

  pub record Follows (h : ℕ) (scheduled held : List X) : Type 0 where
    pub size : length held ≤ h
    pub unequal : IsDistinct eq held
    pub covers : (q : X) → is_member eq scheduled q ≡ true → is_member eq held q ≡ true

  -- the list after the key k, and how much its distance from a cache may grow
  pub record FollowsOn (h : ℕ) (after held : List X) (k : X) (next : List X) : Type 0 where
    pub follows : Follows h after next
    pub has : is_member eq next k ≡ true
    pub near : (xs : List X) → IsDistinct eq xs
        → ranks eq 0 next xs ≤ ranks eq 0 held xs + cond (is_member eq held k) 0 (length xs)

  scheduled_before : (h : ℕ) (before : List X) (k : X) (after : List X)
      → AllByRecursion (λ q. (eq k q || is_member eq before q) ≡ true) after → (q : X)
      → is_member eq after q ≡ true → (eq k q || is_member eq before q) ≡ true
  scheduled_before h before k [] a q m = absurd (true≢false (sym m))
  scheduled_before h before k (y ∷ after) a q m =
      let same = is_member-equal eq laws before q y in
      grind (arith, a.0, m, same, scheduled_before h before k after a.1 q, answers_alike eq laws k q y)

  -- either a held key is not in `after`, or all held keys are
  abbrev Lacks : List X → List X → Type 0
  Lacks after held = ((x : X) × (is_member eq held x ≡ true) × (is_member eq after x ≡ false))
      ⊎ ((q : X) → is_member eq held q ≡ true → is_member eq after q ≡ true)

  missing : (after held : List X) → Lacks after held
  missing after [] = inr (λ q e. absurd (true≢false (sym e)))
  missing after (y ∷ held) = by (is_member eq after y) refl (missing after held)
    where
      by : (b : Bool) → is_member eq after y ≡ b → Lacks after held → Lacks after (y ∷ held)
      by false n s = inl (y, grind (arith, laws.refl y), n)
      by true m (inl s) = inl (s.0, grind (arith, s.1), s.2)
      by true m (inr f) = inr (λ q e. grind (arith, e, m, f q, is_member-equal eq laws after q y))

  module _ (h : ℕ) (before after held : List X) (k : X) (f : Follows h before held)
      (s : MayHold eq h before k after) where
    covered : (q : X) → is_member eq after q ≡ true → (eq k q || is_member eq held q) ≡ true
    covered q e = grind (arith, scheduled_before h before k after s.others q e, f.covers q)

    -- the list has the key already
    follow_there : is_member eq held k ≡ true → FollowsOn h after held k held
    follow_there m =
        let covers : (q : X) → is_member eq after q ≡ true → is_member eq held q ≡ true
        = λ q e. grind (arith, m, covered q e, is_member-equal eq laws held k q) in
        record {
          follows = record { size = f.size; unequal = f.unequal; covers = covers };
          has = m;
          near = λ xs d. omega arith;
        }

    -- there is room for the key
    follow_room : is_member eq held k ≡ false → length held < h → FollowsOn h after held k (k ∷ held)
    follow_room n l =
        let covers : (q : X) → is_member eq after q ≡ true → is_member eq (k ∷ held) q ≡ true
        = λ q e. grind (arith, covered q e, laws.symm q k) in
        record {
          follows = record { size = l; unequal = one_more eq laws k held n f.unequal; covers = covers };
          has = grind (arith, laws.refl k);
          near = λ xs d. omega (arith, ranks-fewer eq laws held (k ∷ held) xs 0 (λ q m. grind (arith, m)));
        }

    -- a key that the schedule no longer holds leaves for it
    follow_swap : (x : X) → is_member eq held k ≡ false → is_member eq held x ≡ true
        → is_member eq after x ≡ false → FollowsOn h after held k (k ∷ remove_key (eq x) held)
    follow_swap x n m o =
        let next = remove_key (eq x) held in
        let stays : (q : X) → is_member eq after q ≡ true → eq x q ≡ false
        = λ q e. grind (arith, e, o, is_member-equal eq laws after x q) in
        let covers : (q : X) → is_member eq after q ≡ true → is_member eq (k ∷ next) q ≡ true
        = λ q e. grind (arith, covered q e, laws.symm q k, removed_other x q held (stays q e)) in
        let distinct = removed_distinct x held f.unequal in
        let kept : (q : X) → eq x q ≡ false → is_member eq held q ≡ true → is_member eq (k ∷ next) q ≡ true
        = λ q u e. grind (arith, e, removed_other x q held u) in
        let size : length next + 1 ≤ h = omega (arith, f.size, length-remove_key (eq x) held m) in
        record {
          follows = record {
            size = omega arith;
            unequal = one_more eq laws k next (removed_absent x k held n) distinct;
            covers = covers;
          };
          has = grind (arith, laws.refl k);
          near = λ xs d. rw n (omega (arith, ranks-all_but_one eq laws held (k ∷ next) xs x 0 kept d));
        }

    -- no room for all: the schedule would hold one key more than its capacity
    too_many : is_member eq held k ≡ false → h ≤ length held
        → ((q : X) → is_member eq held q ≡ true → is_member eq after q ≡ true) → ⊥
    too_many n l all =
        let few = length-le_from_is_member laws (k ∷ held) after (one_more eq laws k held n f.unequal)
        (λ q e. grind (arith, e, s.holds, all q, is_member-equal eq laws after q k)) in
        omega (arith, s.size)

    follow_by : (b : Bool) → is_member eq held k ≡ b → (next : List X) × FollowsOn h after held k next
    follow_by true m = (held, follow_there m)
    follow_by false m = elim (cases_lt (length held) h) [
      | inl l ↦ (k ∷ held, follow_room m l)
      | inr l ↦ elim (missing after held) [
        | inl x ↦ (k ∷ remove_key (eq x.0) held, follow_swap x.0 m x.1 x.2)
        | inr a ↦ absurd (too_many m l a)
      ]
    ]

    pub follow : (next : List X) × FollowsOn h after held k next
    follow = follow_by (is_member eq held k) refl
