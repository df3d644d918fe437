-- The state of a set that was made of clones of distinct elements.
use Rattle.hashlink_set.proofs.Names.{◌≡◌, Bool, true, cond, List, [], ◌∷◌, ◌++◌, Option, None, Some, map, ap}
use Rattle.hashlink_set.proofs.Names.{Result, Ok, Err, subst, sym, ◌∙◌, IfOk, Bor, IsEquivalence, AllZip}
use Rattle.hashlink_set.proofs.Names.{keys_of, TakesFirst, deref, elements_eq, AcceptsAll, SetState}
use Rattle.hashlink_set.{proofs.Names.{elements_of, SetInserts}, specs.Cloned.IsOfClones}
use Rattle.hashlink_model.specs.{Many.{MadeFrom, InsertsPair}, Entries.extended, MapState.empty_map}
use Rattle.hashlink_model.{specs.Sets.pairs_of, proofs.InTurn.accepts_entries}
use Rattle.hashlink_model.proofs.SetElements.{own_elements, clone_of_a_set}
use Rattle.std.{proofs.Common.append-nil, specs.Prelude.{OnErr, MatchResult}, specs.Iterator.{Yields, Drains}}
use Rattle.std.{proofs.lemmas.List.Elements.same_from_all_zip, specs.List.IsDistinct}

zip_weaken : {T : Type 0} (C D : T → T → Type 0) → ((x y : T) → C x y → D x y)
    → (xs ys : List T) → AllZip C xs ys
    → AllZip D xs ys
zip_weaken C D f [] [] z = tt
zip_weaken C D f [] (b ∷ ys) z = absurd z
zip_weaken C D f (a ∷ xs) [] z = absurd z
zip_weaken C D f (a ∷ xs) (b ∷ ys) z = (f a b z.0, zip_weaken C D f xs ys z.1)

module _ {T S : Type 0} (eq : T → T → Bool) where
  -- inserts into a set, one after another, are inserts into a map
  as_pairs : (a b : SetState T S) (ts : List T) → AcceptsAll (SetInserts eq) a ts b
      → AcceptsAll (InsertsPair eq) a (pairs_of ts) b
  as_pairs a b [] h = h
  as_pairs a b (t ∷ ts) h = (h.0, cond h.1 None (Some tt), h.2, as_pairs h.0 b ts h.3)

  made_elements : (clones : List T) (s : S) (new : SetState T S) → MadeFrom (SetInserts eq) clones s new
      → elements_of new ≡ keys_of (extended eq [] (pairs_of clones))
  made_elements clones s new made =
      ap keys_of
      (accepts_entries eq (empty_map s) new (pairs_of clones) (as_pairs (empty_map s) new clones made))

  module _ (laws : IsEquivalence eq) (C : T → T → Type 0) (H : S → Type 0) (ts : List T)
      (distinct : IsDistinct eq ts) (s : S) (hasher : H s) (new : SetState T S) where
    -- for the items that an iterator returned
    pub is_of_items : (items : List (Bor T)) (clones : List T) → map deref items ≡ ts
        → AllZip C (map deref items) clones
        → MadeFrom (SetInserts eq) clones s new
        → IsOfClones eq C H ts new
    is_of_items items clones is given made =
        let cloned = subst (λ xs. AllZip C xs clones) is given in
        record {
          hash_builder = s;
          hasher = hasher;
          clones = clones;
          cloned = cloned;
          made = made;
          equal = λ f. ap (elements_eq eq ts) (made_elements clones s new made)
              ∙ clone_of_a_set eq laws ts clones distinct
              (zip_weaken C (λ x y. eq x y ≡ true) f ts clones cloned);
          same = λ f. made_elements clones s new made
              ∙ ap (λ xs. keys_of (extended eq [] (pairs_of xs))) (same_from_all_zip C ts clones cloned f)
              ∙ own_elements eq laws ts distinct;
        }

-- if several calls returned an item at the end, the first call returned one
pub first_gave : {St X : Type 0} (steps : St → Option X → St → Type 0) (s t u : St) (xs : List X) (x : X)
    → Yields steps s xs t
    → steps t (Some x) u
    → (y : X) × (j : St) × steps s (Some y) j
first_gave steps s t u [] x y step = (x, u, subst (λ k. steps k (Some x) u) (sym y) step)
first_gave steps s t u (z ∷ xs) x y step = (z, y.0, y.1)

-- an iterator whose steps return the first of the items left returns all of them
module _ {St T : Type 0} (steps : St → Option (Bor T) → St → Type 0) (rest : St → List T)
    (takes : (s : St) (r : Option (Bor T)) (t : St) → steps s r t → TakesFirst deref
    (rest s) r (rest t)) where
  given_front : (s : St) (xs : List (Bor T)) (t : St) → Yields steps s xs t → rest s ≡ map deref xs ++ rest t
  given_front s [] t y = ap rest y
  given_front s (x ∷ xs) t y = takes s (Some x) y.0 y.1 ∙ ap (λ l. x.now ∷ l) (given_front y.0 xs t y.2)

  pub given_all : (s : St) (xs : List (Bor T)) → Drains steps s xs → map deref xs ≡ rest s
  given_all s xs d =
      let y = d.1 in
      sym (given_front s xs y.0 y.1 ∙ ap (λ l. map deref xs ++ l) (takes y.0 None d.0 y.2).0
      ∙ append-nil (map deref xs))

  -- so the set of clones of these items is made, by the result; this may fail only if there is an item
  pub clones_by_answer : {S E : Type 0} (eq : T → T → Bool) → IsEquivalence eq → (C : T → T → Type 0)
      → (H : S → Type 0)
      → (ts : List T) (b : S) → H b → (s : St) → rest s ≡ ts → IsDistinct eq (rest s)
      → (r : Result (SetState T S) E)
      → IfOk r (λ new. (items : List (Bor T)) × (clones : List T) × Drains steps s items
      × AllZip C (map deref items) clones × MadeFrom (SetInserts eq) clones b new)
      → OnErr r ((x : Bor T) × (t : St) × steps s (Some x) t)
      → MatchResult r (IsOfClones eq C H ts) (λ _. ts ≡ [] → ⊥)
  clones_by_answer eq laws C H ts b hasher s is distinct (Ok new) made refused =
      is_of_items eq laws C H ts (subst (IsDistinct eq) is distinct) b hasher new made.0 made.1
      (given_all s made.0 made.2 ∙ is) made.3 made.4
  clones_by_answer eq laws C H ts b hasher s is distinct (Err e) made refused = λ none.
      let given = takes s (Some refused.0) refused.1 refused.2 in
      let left = sym given ∙ is ∙ none in absurd (cc)
