-- The results of set algebra: their members and their order; and their elements are pairwise unequal.
use Rattle.std.proofs.Common.{◌≡◌, Bool, true, false, not, ◌&&◌, ◌||◌, cond, List, [], ◌∷◌, ◌++◌, filter, sym}
use Rattle.std.{proofs.Common.{refl, ap, ap₂, ◌∙◌, true≢false, arith}, specs.Cmp.IsEquivalence}
use Rattle.std.specs.{List.{AllByRecursion, IsDistinct}, Set.{is_member, IsIntersection, IsDifference}}
use Rattle.std.proofs.lemmas.Map.Made.{is_member-filter, All-is_member}
use Rattle.std.proofs.lemmas.List.Elements.{recursion_from_All, filter_passes}
use Rattle.hashlink_model.specs.Algebra.{difference_of, intersection_of, union_of, symmetric_difference_of}
use Rattle.hashlink_model.{specs.Algebra.is_nil, proofs.Distinct.{each-append, each-weaker}}

module _ {T : Type 0} (eq : T → T → Bool) (laws : IsEquivalence eq) where
  -- equal elements are both members, or neither is
  pub is_member-equal : (xs : List T) (a b : T) → eq a b ≡ true → is_member eq xs a ≡ is_member eq xs b
  is_member-equal [] a b t = refl
  is_member-equal (x ∷ xs) a b t = ap₂ ◌||◌ (laws.congr a b x t) (is_member-equal xs a b t)

  pub is_member-append : (xs ys : List T) (q : T)
      → is_member eq (xs ++ ys) q ≡ (is_member eq xs q || is_member eq ys q)
  is_member-append [] ys q = refl
  is_member-append (x ∷ xs) ys q = grind (arith, is_member-append xs ys q)

  -- ---- members

  pub difference_members : (xs ys : List T) → IsDifference eq xs ys (difference_of eq xs ys)
  difference_members xs ys q =
      is_member-filter laws (λ x. not (is_member eq ys x)) q (λ x t. ap not (is_member-equal ys q x t)) xs

  pub intersection_members : (xs ys : List T) → IsIntersection eq xs ys (intersection_of eq xs ys)
  intersection_members xs ys q = is_member-filter laws (λ x. is_member eq ys x) q
      (λ x t. is_member-equal ys q x t) xs

  -- ---- elements stay pairwise unequal

  pub none_from_is_member : (xs : List T) (q : T) → is_member eq xs q ≡ false
      → AllByRecursion (λ y. eq q y ≡ false) xs
  none_from_is_member [] q m = tt
  none_from_is_member (x ∷ xs) q m = (grind arith, none_from_is_member xs q (grind arith))

  pub is_member_from_none : (xs : List T) (q : T) → AllByRecursion (λ y. eq q y ≡ false) xs
      → is_member eq xs q ≡ false
  is_member_from_none [] q n = refl
  is_member_from_none (x ∷ xs) q n = rw n.0 (is_member_from_none xs q n.1)

  none_filtered : (p : T → Bool) → ((x y : T) → eq x y ≡ true → p x ≡ p y) → (x : T) (xs : List T)
      → AllByRecursion (λ y. eq x y ≡ false) xs → AllByRecursion (λ y. eq x y ≡ false) (filter p xs)
  none_filtered p same x xs n =
      none_from_is_member (filter p xs) x
      (is_member-filter laws p x (λ y t. same x y t) xs ∙ ap (λ b. b && p x) (is_member_from_none xs x n))

  pub IsDistinct-filter : (p : T → Bool) → ((x y : T) → eq x y ≡ true → p x ≡ p y)
      → (xs : List T) → IsDistinct eq xs → IsDistinct eq (filter p xs)
  unfolding IsDistinct
  IsDistinct-filter p same [] d = d
  IsDistinct-filter p same (x ∷ xs) d =
      let rest = IsDistinct-filter p same xs d.1 in
      elim (p x) as (λ b. IsDistinct eq (cond b (x ∷ filter p xs) (filter p xs)))
      [ true ↦ (none_filtered p same x xs d.0, rest) | false ↦ rest ]

  pub IsDistinct-append : (xs ys : List T) → IsDistinct eq xs → IsDistinct eq ys
      → AllByRecursion (λ x. is_member eq ys x ≡ false) xs → IsDistinct eq (xs ++ ys)
  unfolding IsDistinct
  IsDistinct-append [] ys d e a = e
  IsDistinct-append (x ∷ xs) ys d e a =
      (each-append _ xs ys d.0 (none_from_is_member ys x a.0), IsDistinct-append xs ys d.1 e a.1)

  pub IsDistinct-difference : (xs ys : List T) → IsDistinct eq xs → IsDistinct eq (difference_of eq xs ys)
  IsDistinct-difference xs ys d =
      IsDistinct-filter (λ x. not (is_member eq ys x)) (λ x y t. ap not (is_member-equal ys x y t)) xs d

  pub IsDistinct-intersection : (xs ys : List T) → IsDistinct eq xs → IsDistinct eq (intersection_of eq xs ys)
  IsDistinct-intersection xs ys d = IsDistinct-filter (λ x. is_member eq ys x)
      (λ x y t. is_member-equal ys x y t) xs d

  pub IsDistinct-union : (xs ys : List T) → IsDistinct eq xs → IsDistinct eq ys
      → IsDistinct eq (union_of eq xs ys)
  IsDistinct-union xs ys d e =
      IsDistinct-append xs (difference_of eq ys xs) d (IsDistinct-difference ys xs e)
      (each-weaker _ _
      (λ x (m : is_member eq xs x ≡ true). grind (arith, difference_members ys xs x)) xs
      (recursion_from_All _ xs (All-is_member laws xs)))

  pub IsDistinct-symmetric_difference : (xs ys : List T) → IsDistinct eq xs → IsDistinct eq ys
      → IsDistinct eq (symmetric_difference_of eq xs ys)
  IsDistinct-symmetric_difference xs ys d e =
      IsDistinct-append (difference_of eq xs ys) (difference_of eq ys xs) (IsDistinct-difference xs ys d)
      (IsDistinct-difference ys xs e) (each-weaker _ _
      (λ x (m : not (is_member eq ys x) ≡ true). grind (arith, difference_members ys xs x))
      (difference_of eq xs ys)
      (recursion_from_All _ _ (filter_passes (λ x. not (is_member eq ys x)) xs)))

  -- ---- subset and disjoint, by membership

  pub nil_has_none : (zs : List T) → is_nil zs ≡ true → (q : T) → is_member eq zs q ≡ false
  nil_has_none [] n q = refl
  nil_has_none (z ∷ zs) n q = absurd (true≢false (sym n))

  pub nil_from_none : (zs : List T) → ((q : T) → is_member eq zs q ≡ false) → is_nil zs ≡ true
  nil_from_none [] f = refl
  nil_from_none (z ∷ zs) f =
      grind (arith, f z, laws.refl z)

pub ruleset apart = (IsDistinct-symmetric_difference)

pub ruleset distinct = (IsDistinct-union, IsDistinct-intersection, IsDistinct-difference, apart)

pub ruleset none = (nil_has_none, nil_from_none)

pub ruleset members = (difference_members, intersection_members, is_member-append)

pub ruleset subsets = (members, distinct, none)
