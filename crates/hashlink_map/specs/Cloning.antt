-- What a map is made from, and why the making stopped.
use Rattle.std.specs.{Prelude.{◌≡◌, Bool, true, List, Result}, List.AllZip}
use Rattle.hashlink_model.specs.{Compare.entries_eq, Many.{StopsAtLast, MadeFrom, InsertsPair}}
use Rattle.hashlink_model.specs.MapState.{MapState, empty_map}

-- each pair of the second list has a clone of the key and a clone of the value of the pair at the same place
-- in the first
abbrev pub ArePairClones : {K V : Type 0} → (K → K → Type 0) → (V → V → Type 0) → List (K × V) → List (K × V)
    → Type 0
ArePairClones clones-key clones-value = AllZip (λ p q. clones-key p.0 q.0 × clones-value p.1 q.1)

-- these items, inserted into an empty map with the hasher s, were accepted up to the last, which was refused
abbrev pub StopsMaking : {K V S Item A : Type 0}
    → (MapState K V S → MapState K V S → Item → Result A Item → Type 0)
    → S → List Item → Type 0
StopsMaking {K} {V} {S} {Item} step s items =
    (m : MapState K V S) × StopsAtLast step (empty_map s) items m

-- the items made a map, with a hasher for which H holds
abbrev pub IsMadeOf : {K V S Item A : Type 0}
    → (MapState K V S → MapState K V S → Item → Result A Item → Type 0)
    → (S → Type 0) → List Item → MapState K V S → Type 0
IsMadeOf {K} {V} {S} step H items m = (s : S) × H s × MadeFrom step items s m

-- a clone of each pair of es was inserted in turn into an empty map, with a hasher for which H holds. So the
-- map has es if clones are the same as their sources, and is equal to es if clones are equal to their sources
pub record IsOfPairClones {K V S : Type 0} (eq : K → K → Bool) (clones-key : K → K → Type 0)
    (clones-value : V → V → Type 0) (H : S → Type 0) (es : List (K × V)) (new : MapState K V S) : Type 0 where
  pub hash_builder : S
  pub hasher : H hash_builder
  pub clones : List (K × V)
  pub cloned : ArePairClones clones-key clones-value es clones
  pub made : MadeFrom (InsertsPair eq) clones hash_builder new
  pub equal : (eqv : V → V → Bool) → ((x y : K) → clones-key x y → eq x y ≡ true)
      → ((x y : V) → clones-value x y → eqv x y ≡ true)
      → entries_eq eq eqv es new.entries ≡ true
  pub same : ((x y : K) → clones-key x y → y ≡ x) → ((x y : V) → clones-value x y → y ≡ x) → new.entries ≡ es
