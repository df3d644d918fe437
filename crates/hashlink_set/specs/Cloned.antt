-- The state of a set that was made of clones.
use Rattle.std.specs.{Prelude.{◌≡◌, Bool, true, List, [], Result, MatchResult}, Borrow.Bor, List.AllZip}
use Rattle.hashlink_model.specs.{Compare.elements_eq, Many.MadeFrom, Sets.{SetState, elements_of, SetInserts}}

-- a clone of each element of ts was inserted in order into an empty set, with a hasher for which H holds. So
-- the set has the elements ts if clones are identical to their sources, and it is equal to ts if they are
-- equal to them
pub record IsOfClones {T S : Type 0} (eq : T → T → Bool) (clones-element : T → T → Type 0) (H : S → Type 0)
    (ts : List T) (new : SetState T S) : Type 0 where
  pub hash_builder : S
  pub hasher : H hash_builder
  pub clones : List T
  pub cloned : AllZip clones-element ts clones
  pub made : MadeFrom (SetInserts eq) clones hash_builder new
  pub equal : ((x y : T) → clones-element x y → eq x y ≡ true) → elements_eq eq ts (elements_of new) ≡ true
  pub same : ((x y : T) → clones-element x y → y ≡ x) → elements_of new ≡ ts

-- an operator over two sets returns a set of clones of the elements that `both` lists, or an error; it
-- returns no error if that list is empty
abbrev pub GivesClonesOf : {T S E : Type 0} → (List T → List T → List T) → (T → T → Bool)
    → (T → T → Type 0) → (S → Type 0)
    → Bor (SetState T S) → Bor (SetState T S) → Result (SetState T S) E → Type 0
GivesClonesOf both eq clones-element H a b r =
    let ts = both (elements_of a.now) (elements_of b.now) in
    MatchResult r (IsOfClones eq clones-element H ts) (λ _. ts ≡ [] → ⊥)
