-- Items are appended to those seen before, one after another, if they appear for the first time.
use Rattle.std.{proofs.Common.{cond, ◌||◌, map}, specs.Set.is_member, proofs.lemmas.List.map_push}
use Rattle.hashlink_uses.proofs.Common.{◌≡◌, Bool, List, [], ◌∷◌, ◌++◌, ap, refl, arith, append_assoc}
use Rattle.hashlink_uses.proofs.Common.{list_any, first_appearances}

module _ {X : Type 0} (eq : X → X → Bool) where
  pub appears : (seen : List X) (x : X) (xs : List X)
      → (let now = cond (is_member eq seen x) seen (seen ++ x ∷ []) in now ++ first_appearances eq now xs)
      ≡ seen ++ first_appearances eq seen (x ∷ xs)
  appears seen x xs = grind (arith, append_assoc seen (x ∷ []))

-- the same for a function of each item
module _ {X Y : Type 0} (eq : X → X → Bool) (f : Y → X) where
  any-map : (y : Y) (ys : List Y) → list_any (λ z. eq (f y) (f z)) ys ≡ list_any (eq (f y)) (map f ys)
  any-map y [] = refl
  any-map y (z ∷ ys) = ap (λ b. eq (f y) (f z) || b) (any-map y ys)

  pub map-appearances : (seen ys : List Y) → map f (first_appearances (λ a b. eq (f a) (f b)) seen ys)
      ≡ first_appearances eq (map f seen) (map f ys)
  map-appearances seen [] = refl
  map-appearances seen (y ∷ ys) =
      grind (
        arith,
        any-map y seen,
        map_push f seen y,
        map-appearances seen ys,
        map-appearances (seen ++ y ∷ []) ys,
      )
