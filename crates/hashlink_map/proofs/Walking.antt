-- The state of a walk that lends values, by its places.
use Rattle.hashlink_map.proofs.Names
use Names.{◌≡◌, ◌≢◌, ℕ, zero, suc, ◌+◌, ◌-◌, ◌<◌, ◌≤◌, List, [], ◌∷◌, length, ◌++◌, map, take, Option, None}
use Names.{Some, refl, ap, ap₂, sym, subst, length-take-le, ◌∙◌, arith, slice_get, OnSome, option_map}
use Names.{value_at, set_value_at, MapState, map_state, with_value, first_of, last_of, Keyed, entries_of}
use Names.{state_of, pair_with_value, with_value_at, values-renewed_value, length-map, PlacesLeft}
use Names.{WritingWalk, writing_walk, walk_with, walk_in, walk_rest, WritesSoFar, after_front, last_place}
use Names.{after_back, StandsIn, Node, Holds, place_number, place_number-renewed, within-holds}
use Names.{slice_get-drop}
use Rattle.std.proofs.Common.{drop, add-one, length-drop}
use Rattle.hashlink_map.specs.WritingWalk.{TakesPlace}

-- a place, and what represents it
pub same-place : (p : Option Node) → option_map (λ n. n) p ≡ p
same-place None = refl
same-place (Some n) = refl

module _ {K V S : Type 0} (m : Keyed K V S) (p : PlacesLeft Node) (w : StandsIn (λ n. n) m.nodes p)
    (some : p.left ≢ 0) where
  abbrev ns : List (Node × (K × V))
  ns = m.nodes

  -- ---- at the front
  pub first-holds : Holds m.nodes p.first
  first-holds = within-holds ns p.first (omega (arith, w.few, some))

  module _ (q : Node) (next : place_number m.nodes (Some q) ≡ place_number m.nodes (Some p.first) + 1) where
    pub stands-next : StandsIn (λ n. n) m.nodes (record { first = q; last = p.last; left = p.left - 1 })
    stands-next = record {
      few = omega (arith, w.few, next, some);
      ends = λ more. let ends = w.ends (omega (arith, some)) in omega (arith, ends, more, next);
    }

    pub takes-first : TakesPlace m (walk_in (λ n. n) m p)
        (walk_in (λ n. n) m (record { first = q; last = p.last; left = p.left - 1 }))
        (walk_in (λ n. n) m p).at (after_front (walk_in (λ n. n) m p)) (Some p.first)
    takes-first =
        (first-holds, refl, omega (arith, some), ap (λ i. writing_walk (state_of m) i (p.left - 1)) next)

  -- ---- at the back
  number-last : place_number m.nodes (Some p.last) ≡ place_number m.nodes (Some p.first) + p.left - 1
  number-last = let ends = w.ends (omega (arith, some)) in omega (arith, ends)

  pub last-holds : Holds m.nodes p.last
  last-holds = within-holds ns p.last (omega (arith, w.few, number-last, some))

  module _ (q : Node) (prev : 0 < place_number m.nodes (Some p.last)
      → place_number m.nodes (Some q) + 1 ≡ place_number m.nodes (Some p.last)) where
    pub stands-prev : StandsIn (λ n. n) m.nodes (record { first = p.first; last = q; left = p.left - 1 })
    stands-prev = record {
      few = omega (arith, w.few);
      ends = λ more. let ends = w.ends (omega (arith, some)) in
          omega (arith, ends, more, prev (omega (arith, ends, more)));
    }

    pub takes-last : TakesPlace m (walk_in (λ n. n) m p)
        (walk_in (λ n. n) m (record { first = p.first; last = q; left = p.left - 1 }))
        (last_place (walk_in (λ n. n) m p)) (after_back (walk_in (λ n. n) m p)) (Some p.last)
    takes-last = (last-holds, number-last, omega (arith, some), refl)

-- ---- what the walk has left
module _ {X : Type 0} where
  slice_get-taken : (xs : List X) (n i : ℕ) → i < n → slice_get (take n xs) i ≡ slice_get xs i
  slice_get-taken xs zero i lt = absurd (omega (arith, lt))
  slice_get-taken [] (suc n) i lt = refl
  slice_get-taken (x ∷ xs) (suc n) zero lt = refl
  slice_get-taken (x ∷ xs) (suc n) (suc i) lt = slice_get-taken xs n i (omega (arith, lt))

  slice_get-dropped : (xs : List X) (i j : ℕ) → slice_get (drop i xs) j ≡ slice_get xs (i + j)
  slice_get-dropped xs i j = slice_get-drop xs i j (i + j) refl

  length-part : (xs : List X) (i n : ℕ) → i + n ≤ length xs → length (take n (drop i xs)) ≡ n
  length-part xs i n le = length-take-le n (drop i xs) (omega (arith, le, length-drop i xs))

  pub first-of_part : (xs : List X) (i n : ℕ) → 0 < n → first_of (take n (drop i xs)) ≡ slice_get xs i
  first-of_part xs i n some = slice_get-taken (drop i xs) n 0 some ∙ slice_get-dropped xs i 0
      ∙ ap (slice_get xs) (omega arith)

  pub last-of_part : (xs : List X) (i n : ℕ) → 0 < n → i + n ≤ length xs
      → last_of (take n (drop i xs)) ≡ slice_get xs (i + n - 1)
  last-of_part xs i n some le =
      ap (λ l. slice_get (take n (drop i xs)) (l - 1)) (length-part xs i n le)
      ∙ slice_get-taken (drop i xs) n (n - 1) (omega (arith, some)) ∙ slice_get-dropped xs i (n - 1)
      ∙ ap (slice_get xs) (omega (arith, some))

-- ---- what was written
module _ {K V S : Type 0} where
  -- at a node of the list
  pub written-there : (m : Keyed K V S) (p : PlacesLeft Node) (n : Node) (v : V)
      → walk_in (λ q. q) (with_value_at m n v) p
      ≡ walk_with (walk_in (λ q. q) m p) (place_number m.nodes (Some n)) v
  written-there m p n v =
      let i = place_number m.nodes (Some n) in
      ap₂ (λ es k. writing_walk (map_state es m.spare m.room m.link_writes m.hasher) k p.left)
      (values-renewed_value m.nodes i v)
      (place_number-renewed (pair_with_value v) m.nodes i (Some p.first))

  -- the pair at the node that was taken
  pub first-taken : (m : Keyed K V S) (old : PlacesLeft Node) (n : Node) (new stepped : WritingWalk K V S)
      → TakesPlace m (walk_in (λ p. p) m old) new (walk_in (λ p. p) m old).at stepped (Some n)
      → slice_get (entries_of m) (place_number m.nodes (Some n))
      ≡ first_of (walk_rest (walk_in (λ p. p) m old))
  first-taken m old n new stepped takes =
      let w = walk_in (λ p. p) m old in
      ap (slice_get (entries_of m)) takes.1 ∙ sym (first-of_part (entries_of m) w.at w.left takes.2)

  pub last-taken : (m : Keyed K V S) (old : PlacesLeft Node) (n : Node) (new stepped : WritingWalk K V S)
      → StandsIn (λ p. p) m.nodes old
      → TakesPlace m (walk_in (λ p. p) m old) new (last_place (walk_in (λ p. p) m old)) stepped (Some n)
      → slice_get (entries_of m) (place_number m.nodes (Some n))
      ≡ last_of (walk_rest (walk_in (λ p. p) m old))
  last-taken m old n new stepped stands takes =
      let w = walk_in (λ p. p) m old in
      ap (slice_get (entries_of m)) takes.1
      ∙ sym (last-of_part (entries_of m) w.at w.left takes.2
      (omega (arith, stands.few, length-map m.nodes (λ e. e.1))))

-- ---- the value at the node that was taken is lent
module _ {K V S : Type 0} (m : Keyed K V S) (old new : PlacesLeft Node) (n : Node) {v : V}
    (there : value_at (entries_of m) (place_number m.nodes (Some n)) ≡ Some v) where
  -- the walk with any value written at the node, how many places are left, and the value before that
  pub lent-taken : (j : ℕ) (stepped : WritingWalk K V S) (e : Option (K × V))
      → TakesPlace m (walk_in (λ p. p) m old) (walk_in (λ p. p) m new) j stepped (Some n)
      → slice_get (entries_of m) (place_number m.nodes (Some n)) ≡ e
      → ((w : V) → walk_in (λ p. p) (with_value_at m n w) new ≡ walk_with stepped j w)
      × (new.left ≡ stepped.left) × (Some v ≡ option_map (λ e. e.1) e)
  lent-taken j stepped e takes is = (
    λ w. written-there m new n w ∙ ap₂ (λ s k. walk_with s k w) takes.3 takes.1,
    ap (λ s. s.left) takes.3,
    sym there ∙ ap (option_map (λ e. e.1)) is,
  )

-- ---- lemmas for a caller
pub on-some : {A : Type 0} {r : Option A} {x : A} {P : Type 0} → r ≡ Some x → OnSome r P → P
on-some {P = P} is told = subst (λ o. OnSome o P) is told

module _ {K V S : Type 0} where
  -- the map ends as the walk describes it
  pub walk-ends : {m : Keyed K V S} (seen : Keyed K V S) {state : MapState K V S} → m ≡ seen
      → state_of seen ≡ state
      → state_of m ≡ state
  walk-ends seen is told = ap state_of is ∙ told

-- ---- a walk that writes each value in sequence

module _ {K V : Type 0} (f : K × V → V) where
  -- the first i entries with f of them as values, and the others as they were
  abbrev written : ℕ → List (K × V) → List (K × V)
  written i es = map (λ e. (e.0, f e)) (take i es) ++ drop i es

  written-at : (i : ℕ) (es : List (K × V)) → slice_get (written i es) i ≡ slice_get es i
  written-at zero es = refl
  written-at (suc i) [] = refl
  written-at (suc i) (e ∷ es) = written-at i es

  written-next : (i : ℕ) (es : List (K × V)) (v : V) → ((e : K × V) → slice_get es i ≡ Some e → v ≡ f e)
      → set_value_at (written i es) i v ≡ written (suc i) es
  written-next zero [] v is = refl
  written-next zero (e ∷ es) v is = ap (λ w. (e.0, w) ∷ es) (is e refl)
  written-next (suc i) [] v is = refl
  written-next (suc i) (e ∷ es) v is = ap (λ l. (e.0, f e) ∷ l) (written-next i es v is)

  -- the walk after a step that lent the next entry's value, to which v was written
  pub writes-next : {S : Type 0} {old : MapState K V S} {w new : WritingWalk K V S} {v : V}
      → WritesSoFar f old w → 0 < w.left → ((e : K × V) → first_of (walk_rest w) ≡ Some e → v ≡ f e)
      → new ≡ walk_with (after_front w) w.at v
      → WritesSoFar f old new
  writes-next {old = old} {w = w} {v = v} so some is told =
      let here = λ (e : K × V) (at : slice_get old.entries w.at ≡ Some e).
      first-of_part w.map.entries w.at w.left some ∙ ap (λ m. slice_get m.entries w.at) so.written
      ∙ written-at w.at old.entries ∙ at in
      subst (WritesSoFar f old) (sym told) record {
        whole = omega (arith, so.whole, some);
        written = ap (λ m. with_value m w.at v) so.written
            ∙ ap (λ es. record old { entries = es })
            (written-next w.at old.entries v (λ e at. is e (here e at))
            ∙ ap (λ i. written i old.entries) (sym (add-one w.at)));
      }

-- an entry, by its value that was lent and by the pair that was shown
module _ {K V : Type 0} {o : Option (K × V)} {e : K × V} where
  pub shown-entry : {x : K × V} → Some x ≡ o → o ≡ Some e → x ≡ e
  shown-entry {x = x} shown at = let same : Some x ≡ Some e = shown ∙ at in cc
