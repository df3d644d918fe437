-- What a contract sees of the lazy iterators over two sets: what each has not looked at, and what it has yet
-- to return.
use Rattle.std.specs.Prelude.{◌≡◌, ℕ, Bool, true, false, not, List, filter, Option, Some, None, option_copied}
use Rattle.std.specs.{Borrow.Bor, Map.Iter.{TakesFirst, deref}, Set.is_member}
use Rattle.hashlink_model.specs.Algebra.{PairWalk, first_passing, pair_step, left_to_give}
use Rattle.hashlink_set.specs.{Elements.elements_in, declared.sifted.Sifted.Sifted}
use Rattle.hashlink_set.specs.declared.symmetric_difference.SymmetricDifference.{SymmetricDifference}
use Rattle.hashlink_set.specs.declared.union.Union.{Union}

module _ {T : Type 0} where
  -- no element of ys is equal
  abbrev pub lacks : (T → T → Bool) → List T → T → Bool
  lacks eq ys x = not (is_member eq ys x)

  -- whether an element of ys is equal, or whether none is, depending on the flag
  abbrev pub sifts : (T → T → Bool) → Bool → List T → T → Bool
  sifts eq true ys = is_member eq ys
  sifts eq false ys = lacks eq ys

  -- a step looks at the elements up to the first that passes p, and returns it
  pub record LooksOn (p : T → Bool) (old : List T) (r : Option (Bor T)) (new : List T) : Type 0 where
    pub gives : option_copied r ≡ (first_passing p old).0
    pub leaves : new ≡ (first_passing p old).1

  -- the same for an iterator over two sides
  pub record LooksOnBoth (p q : T → Bool) (old : PairWalk T) (r : Option (Bor T))
      (new : PairWalk T) : Type 0 where
    pub gives : option_copied r ≡ (pair_step p q old).0
    pub leaves : new ≡ (pair_step p q old).1

-- a step of the second iterator, or no step if the first returned an item
abbrev pub StepsUnless : {X B : Type 0} → (B → Option X → B → Type 0) → Option X → B → Option X → B → Type 0
StepsUnless gives (Some x) old r new = (r ≡ Some x) × (new ≡ old)
StepsUnless gives None old r new = gives old r new

-- a step of the first iterator and, if it returns none, one of the second
abbrev pub GivesFromTwo : {X A B : Type 0} → (A → Option X → A → Type 0) → (B → Option X → B → Type 0)
    → A → B → Option X → A → B → Type 0
GivesFromTwo {X = X} first second a b r a' b' = (o : Option X) × first a o a' × StepsUnless second o b r b'

module _ {T S H : Type 0} where
  -- what an iterator over two sides has not looked at
  abbrev pub union_walk : Union T S H → PairWalk T
  union_walk u = record { left = u.first; right = u.second.iter }

  abbrev pub symmetric_difference_walk : SymmetricDifference T S H → PairWalk T
  symmetric_difference_walk d = record { left = d.first.iter; right = d.second.iter }

module _ {T S H : Type 0} (eq : T → T → Bool) where
  -- ---- the elements that the other set has, or the ones that it lacks, depending on the flag: an
  -- `Intersection` is a `Sifted` whose number is 1, and a `Difference` one whose number is 0

  abbrev pub sifted_rest : {has : ℕ} → Bool → Sifted T S has H → List T
  sifted_rest asked d = filter (sifts eq asked (elements_in d.other.now)) d.iter

  pub record SiftedSteps {has : ℕ} (asked : Bool) (old : Sifted T S has H) (r : Option (Bor T))
      (new : Sifted T S has H) : Type 0 where
    pub takes : TakesFirst deref (sifted_rest asked old) r (sifted_rest asked new)
    pub looks : LooksOn (sifts eq asked (elements_in old.other.now)) old.iter r new.iter
    pub same_other : new.other.now ≡ old.other.now

  -- ---- the elements that the other set has

  abbrev pub intersection_rest : Sifted T S 1 H → List T
  intersection_rest = sifted_rest true

  abbrev pub IntersectionSteps : Sifted T S 1 H → Option (Bor T) → Sifted T S 1 H → Type 0
  IntersectionSteps = SiftedSteps true

  -- ---- the elements that the other set lacks

  abbrev pub difference_rest : Sifted T S 0 H → List T
  difference_rest = sifted_rest false

  abbrev pub DifferenceSteps : Sifted T S 0 H → Option (Bor T) → Sifted T S 0 H → Type 0
  DifferenceSteps = SiftedSteps false

  -- ---- the elements of either set

  abbrev pub union_rest : Union T S H → List T
  union_rest u = left_to_give (λ _. true) (lacks eq (elements_in u.second.other.now)) (union_walk u)

  pub record UnionSteps (old : Union T S H) (r : Option (Bor T)) (new : Union T S H) : Type 0 where
    pub takes : TakesFirst deref (union_rest old) r (union_rest new)
    pub looks : LooksOnBoth (λ _. true) (lacks eq (elements_in old.second.other.now)) (union_walk old) r
        (union_walk new)
    pub same_other : new.second.other.now ≡ old.second.other.now

  -- ---- the elements of exactly one of the two sets

  abbrev pub symmetric_difference_rest : SymmetricDifference T S H → List T
  symmetric_difference_rest d =
      left_to_give (lacks eq (elements_in d.first.other.now)) (lacks eq (elements_in d.second.other.now))
      (symmetric_difference_walk d)

  pub record SymmetricDifferenceSteps (old : SymmetricDifference T S H) (r : Option (Bor T))
      (new : SymmetricDifference T S H) : Type 0 where
    pub takes : TakesFirst deref (symmetric_difference_rest old) r (symmetric_difference_rest new)
    pub looks : LooksOnBoth (lacks eq (elements_in old.first.other.now))
        (lacks eq (elements_in old.second.other.now))
        (symmetric_difference_walk old) r (symmetric_difference_walk new)
    pub same_first : new.first.other.now ≡ old.first.other.now
    pub same_second : new.second.other.now ≡ old.second.other.now
