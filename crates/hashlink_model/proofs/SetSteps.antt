-- Elements after the steps of a set.
use Rattle.hashlink_model.proofs.Names.{◌≡◌, ℕ, zero, suc, ◌+◌, Bool, true, false, cond, ◌||◌, List, [], ◌∷◌}
use Rattle.hashlink_model.proofs.Names.{◌++◌, sym, length, take, drop, slice_get, Some, refl, ap, ap₂, ◌∙◌}
use Rattle.hashlink_model.proofs.Names.{arith, IsEquivalence, keys_of, is_member, swap_key, is_some-lookup}
use Rattle.hashlink_model.proofs.Names.{length-keys_of, length-append, take-append-drop, none-some, same_Some}
use Rattle.hashlink_model.proofs.Names.{place_without, without, stored_key, put, pairs_of, put_element}
use Rattle.hashlink_model.proofs.Members.{none_from_is_member, is_member_from_none, is_member-append}
use Rattle.hashlink_model.proofs.{Names.replaced, Distinct.{each-middle, each-weaker}, Finds.stored_key-equal}
use Rattle.hashlink_model.proofs.{Places.split_at, Puts.IsEntries-put, Members.is_member-equal}
use Rattle.hashlink_model.proofs.{Afterwards.{length-put_absent, length-put_there}, SetViews.keys_of-pairs_of}
use Rattle.std.{specs.List.IsDistinct, proofs.lemmas.List.set_at, proofs.lemmas.Map.Keys.IsDistinct-push}

module _ {T : Type 0} (eq : T → T → Bool) where
  -- ---- lengths

  pub length_pairs_of : (ts : List T) → length (pairs_of ts) ≡ length ts
  length_pairs_of ts = sym (length-keys_of (pairs_of ts)) ∙ ap length (keys_of-pairs_of ts)

  pub length-put_element : (ts : List T) (t : T) (b : ℕ)
      → length (put_element eq ts t b) ≡ cond (is_member eq ts t) (length ts) (length ts + 1)
  length-put_element ts t b =
      let es = pairs_of ts in
      let there = is_some-lookup (eq t) es ∙ ap (λ zs. is_member eq zs t) (keys_of-pairs_of ts) in
      let long = length-keys_of (put eq es t tt b) in
      let same = length_pairs_of ts in
      grind (arith, long, there, same, length-put_absent eq es t tt b, length-put_there eq es t tt b)

  pub replaced-absent : (ts : List T) (t : T) → is_member eq ts t ≡ false → replaced eq ts t ≡ ts ++ t ∷ []
  replaced-absent ts t m = rw m refl

  pub replaced-there : (ts : List T) (t : T) → is_member eq ts t ≡ true → replaced eq ts t
      ≡ swap_key (eq t) ts t
  replaced-there ts t m = rw m refl

  pub length_swap_key : (test : T → Bool) (ts : List T) (t : T) → length (swap_key test ts t) ≡ length ts
  length_swap_key test [] t = refl
  length_swap_key test (x ∷ ts) t = grind (arith, length_swap_key test ts t)

  -- ---- every other element stays at its place

  pub swapped_others : (t x : T) → eq t x ≡ false → (ts : List T) (i : ℕ) → slice_get ts i ≡ Some x
      → slice_get (swap_key (eq t) ts t) i ≡ Some x
  swapped_others t x f [] i e = absurd (none-some x e)
  swapped_others t x f (y ∷ ts) zero e = rw (ap (eq t) (same_Some y x e) ∙ f) e
  swapped_others t x f (y ∷ ts) (suc i) e = grind (arith, swapped_others t x f ts i e)

  pub pushed_others : (t x : T) (ts : List T) (i : ℕ) → slice_get ts i ≡ Some x
      → slice_get (ts ++ t ∷ []) i ≡ Some x
  pushed_others t x [] i e = absurd (none-some x e)
  pushed_others t x (y ∷ ts) zero e = e
  pushed_others t x (y ∷ ts) (suc i) e = pushed_others t x ts i e

module _ {T : Type 0} (eq : T → T → Bool) (laws : IsEquivalence eq) where
  -- ---- members after an element was put

  module _ {V : Type 0} (q : T) where
    member_middle : (xs : List (T × V)) (e : T × V) (ys : List (T × V))
        → is_member eq (keys_of (xs ++ e ∷ ys)) q ≡ (eq q e.0 || is_member eq (keys_of (xs ++ ys)) q)
    member_middle [] e ys = refl
    member_middle (x ∷ xs) e ys = grind (arith, member_middle xs e ys)

    member_without : (es : List (T × V)) (k : T) → eq k q ≡ false
        → is_member eq (keys_of (without eq es k)) q ≡ is_member eq (keys_of es) q
    member_without [] k f = refl
    member_without (e ∷ es) k f = grind (arith, member_without es k f, laws.congr k e.0 q, laws.symm q e.0)

    pub is_member-put : (es : List (T × V)) (k : T) (v : V) (b : ℕ)
        → is_member eq (keys_of (put eq es k v b)) q ≡ (eq k q || is_member eq (keys_of es) q)
    is_member-put es k v b =
        let j = place_without eq es k b in
        let zs = without eq es k in
        let k0 = stored_key eq es k in
        member_middle (take j zs) (k0, v) (drop j zs) ∙ ap₂ (λ c ys. c || is_member eq (keys_of ys) q)
        (laws.symm q k0 ∙ sym (laws.congr k k0 q (stored_key-equal eq laws k es))) (take-append-drop j zs)
        ∙ grind (arith, member_without es k)

  -- ---- members after an element was replaced

  pub member_swap_key : (t q : T) (ts : List T) → is_member eq (swap_key (eq t) ts t) q ≡ is_member eq ts q
  member_swap_key t q [] = refl
  member_swap_key t q (x ∷ ts) =
      grind (arith, member_swap_key t q ts, laws.symm q t, laws.symm x q, laws.congr t x q)

  -- ---- replaced elements stay pairwise unequal

  IsDistinct_swap_key : (t : T) (ts : List T) → IsDistinct eq ts → IsDistinct eq (swap_key (eq t) ts t)
  unfolding IsDistinct
  IsDistinct_swap_key t [] d = d
  IsDistinct_swap_key t (x ∷ ts) d =
      let rest = IsDistinct_swap_key t ts d.1 in
      let none = none_from_is_member eq laws (swap_key (eq t) ts t) x
      (member_swap_key t x ts ∙ is_member_from_none eq laws ts x d.0) in
      elim (eq t x) as (λ b. eq t x ≡ b → IsDistinct eq (cond b (t ∷ ts) (x ∷ swap_key (eq t) ts t))) [
        | true ↦ λ e. (each-weaker _ _ (λ y n. laws.congr t x y e ∙ n) ts d.0, d.1)
        | false ↦ λ e. (none, rest)
      ] refl

  pub IsDistinct-replaced : (ts : List T) (t : T) → IsDistinct eq ts → IsDistinct eq (replaced eq ts t)
  IsDistinct-replaced ts t d =
      let pushed : is_member eq ts t ≡ false → IsDistinct eq (ts ++ t ∷ []) = IsDistinct-push laws ts t d in
      grind (arith, pushed, IsDistinct_swap_key t ts d)

  -- ---- an equal element is taken out, and the given one is stored at its place

  pub swapped_here : (t x : T) (us vs : List T) → IsDistinct eq (us ++ x ∷ vs) → eq t x ≡ true
      → swap_key (eq t) (us ++ x ∷ vs) t ≡ us ++ t ∷ vs
  unfolding IsDistinct
  swapped_here t x [] vs d e = rw e refl
  swapped_here t x (u ∷ us) vs d e =
      let other : eq t u ≡ false = laws.congr t x u e ∙ laws.symm x u ∙ (each-middle _ us x vs d.0).0 in
      rw other (ap (λ r. u ∷ r) (swapped_here t x us vs d.1 e))

  pub member_here : (t x : T) (us vs : List T) → eq t x ≡ true → is_member eq (us ++ x ∷ vs) t ≡ true
  member_here t x [] vs e = rw e refl
  member_here t x (u ∷ us) vs e = grind (arith, member_here t x us vs e)

pub ruleset members = (is_member-append, is_member-equal, is_member-put, member_swap_key)

pub ruleset counts = (length-put_element, length_swap_key, length-append, keys_of-pairs_of)

pub ruleset swaps = (replaced-there, replaced-absent, member_here, swapped_here, split_at, set_at)

pub ruleset others = (swapped_others, pushed_others)

pub ruleset unequal = (IsEntries-put, IsDistinct-replaced, keys_of-pairs_of)

pub ruleset set_steps = (members, counts, swaps, others, unequal)
