-- Many items in turn.
use Rattle.hashlink_model.proofs.Names.{◌≡◌, ℕ, ◌+◌, ◌≤◌, ◌<◌, Bool, List, [], ◌∷◌, ◌++◌, length, Option}
use Rattle.hashlink_model.proofs.Names.{None, Some, Result, Ok, ap, ◌∙◌, subst, arith, length-append}
use Rattle.hashlink_model.{proofs.Names.{extended, MapState, InsertsPair}, specs.Steps.Drains}
use Rattle.hashlink_model.{proofs.CacheSteps.put_entries, specs.Many.{AcceptsAll, StopsAt}}

module _ {State Item A : Type 0} (step : State → State → Item → Result A Item → Type 0) where
  pub accepts_in_parts : (a b c : State) (xs ys : List Item) → AcceptsAll step a xs b → AcceptsAll step b ys c
      → AcceptsAll step a (xs ++ ys) c
  accepts_in_parts a b c [] ys s t = subst (λ m. AcceptsAll step m ys c) s t
  accepts_in_parts a b c (x ∷ xs) ys s t = (s.0, s.1, s.2, accepts_in_parts s.0 b c xs ys s.3 t)

module _ {K V S : Type 0} (eq : K → K → Bool) where
  pub accepts_entries : (old new : MapState K V S) (items : List (K × V))
      → AcceptsAll (InsertsPair eq) old items new → new.entries ≡ extended eq old.entries items
  accepts_entries old new [] s = ap (λ m. m.entries) s
  accepts_entries old new (p ∷ items) s =
      accepts_entries s.0 new items s.3
      ∙ ap (λ es. extended eq es items) (put_entries eq old s.0 p.0 p.1 s.1 s.2)

  -- each item uses at most one free node
  spare_inserted : (old new : MapState K V S) (p : K × V) (w : Option V) → InsertsPair eq old new p (Ok w)
      → old.spare ≤ new.spare + 1
  spare_inserted old new p None s = omega arith
  spare_inserted old new p (Some v) s = omega arith

  accepts_spare : (old new : MapState K V S) (items : List (K × V))
      → AcceptsAll (InsertsPair eq) old items new → old.spare ≤ new.spare + length items
  accepts_spare old new [] s = omega (arith, ap (λ m. m.spare) s)
  accepts_spare old new (p ∷ items) s =
      omega (arith, spare_inserted old s.0 p s.1 s.2, accepts_spare s.0 new items s.3)

  module _ (old new : MapState K V S) (items : List (K × V)) (taken : ℕ) (back : K × V) (left : List (K × V))
      (s : StopsAt (InsertsPair eq) old items new taken back left) where
    pub stops_entries : new.entries ≡ extended eq old.entries s.before
    stops_entries = s.refused.grows.entries ∙ accepts_entries old s.between s.before s.accepted

    -- an item is refused only if the free nodes are used up
    pub stops_late : old.spare < length items
    stops_late =
        let parts = length-append s.before (s.item ∷ left) in
        omega (arith, accepts_spare old s.between s.before s.accepted, ap length s.is)

  pub drained_takes : (a old new : MapState K V S) (items : List (K × V)) (taken : ℕ) (back : K × V)
      (left : List (K × V)) → Drains a old → length items ≤ a.spare + length a.entries
      → StopsAt (InsertsPair eq) old items new taken back left → ⊥
  drained_takes a old new items taken back left d l s =
      omega (arith, stops_late old new items taken back left s)

-- if the last of two items was refused, it is the second, and none is left after it
pub refused_of_two : {X : Type 0} (xs : List X) (x a b : X) → a ∷ b ∷ [] ≡ xs ++ x ∷ []
    → (xs ≡ a ∷ []) × (x ≡ b)
refused_of_two [] x a b e = absurd (omega (arith, ap length e))
refused_of_two (y ∷ []) x a b e = (cc, cc)
refused_of_two (y ∷ z ∷ zs) x a b e = absurd (omega (arith, ap length e, length-append zs (x ∷ [])))
