-- Lists changed at an index, and the place of a key in a list.
use Rattle.std.proofs.Common.{◌≡◌, ℕ, zero, suc, ◌+◌, ◌-◌, ◌<◌, ◌≤◌, Bool, true, false, cond, List, [], ◌∷◌}
use Rattle.std.proofs.Common.{◌++◌, length, take, drop, Option, None, Some, refl, ap, sym, subst, ◌∙◌, arith}
use Rattle.std.{proofs.Common.{add-one, map, lt-ltb, le-ltb}, specs.Option.{option_map, option_map_or}}
use Rattle.std.specs.{Prelude.{slice_get, insert, remove, unwrap_or, Contains}, Cmp.IsEquivalence}
use Rattle.std.{specs.Map.remove_entry, proofs.lemmas.List.Edits.{length-remove, get_or-insert_at}}
use Rattle.std.proofs.lemmas.{Bool.Decides.nat_tests, List.{take-append-drop, map-append, take-map, drop-map}}
use Rattle.std.proofs.lemmas.{Map.NonePasses, List.Sorted.{length_permutation, IsPermutation-insert}}
use Rattle.std.proofs.lemmas.Option.{slice_get-map, slice_get_within, slice_get-get_or, get_or_from_slice_get}
use Rattle.hashlink_model.specs.Entries.{IsEntries, place_of, place_or_end, place_left, moved_at}
use Rattle.hashlink_model.proofs.{Splits.stands_from_place, Places.slice_get_here}
use Rattle.hashlink_model.proofs.Distinct.{none_others, IsEntries-middle, IsEntries-insert}

-- ---- any list, changed at an index
module _ {X : Type 0} where
  pub drop-at : (xs : List X) (i : ℕ) (x : X) → slice_get xs i ≡ Some x → drop i xs ≡ x ∷ drop (suc i) xs
  drop-at [] i x at = absurd (cc)
  drop-at (y ∷ xs) zero x at = let same : y ≡ x = cc in ap (λ z. z ∷ xs) same
  drop-at (y ∷ xs) (suc i) x at = drop-at xs i x at

  -- an element by its index
  pub element-at : (xs : List X) (i : ℕ) (x : X) → slice_get xs i ≡ Some x → Contains xs x
  element-at xs i x at = (i, slice_get_within xs i x at, get_or_from_slice_get xs i x x at)

  pub at-element : (xs : List X) (x : X) (c : Contains xs x) → slice_get xs c.0 ≡ Some x
  at-element xs x c = slice_get-get_or xs c.0 x c.1 ∙ ap Some c.2

  pub length-inserted : (xs : List X) (i : ℕ) (x : X) → length (insert xs i x) ≡ length xs + 1
  length-inserted xs i x =
      omega (arith, length_permutation (x ∷ xs) (insert xs i x) (IsPermutation-insert xs i x))

  pub length-removed : (xs : List X) (i : ℕ) (x : X) → slice_get xs i ≡ Some x
      → length (remove xs i) + 1 ≡ length xs
  length-removed xs i x at = length-remove xs i (slice_get_within xs i x at)

  pub slice_get-inserted : (xs : List X) (i : ℕ) (x : X) → i ≤ length xs
      → slice_get (insert xs i x) i ≡ Some x
  slice_get-inserted xs i x le = slice_get-get_or (insert xs i x) i x (omega (arith, length-inserted xs i x))
      ∙ ap Some (get_or-insert_at xs i x x le)

module _ {X Y : Type 0} (f : X → Y) where
  pub insert-map : (xs : List X) (i : ℕ) (x : X) → map f (insert xs i x) ≡ insert (map f xs) i (f x)
  insert-map xs i x = simp (map-append, take-map, drop-map)

  pub remove-map : (xs : List X) (i : ℕ) → map f (remove xs i) ≡ remove (map f xs) i
  remove-map xs i = simp (map-append, take-map, drop-map)

  -- if f of an option is y, the option has an x, and f of x is y
  pub from_part : (o : Option X) (y : Y) → option_map f o ≡ Some y → (x : X) × (o ≡ Some x) × (f x ≡ y)
  from_part None y h = absurd (cc)
  from_part (Some x) y h = (x, refl, cc)

  -- an element of a mapped list, from the element that f maps, and back
  pub mapped-at : (xs : List X) (i : ℕ) (x : X) → slice_get xs i ≡ Some x
      → slice_get (map f xs) i ≡ Some (f x)
  mapped-at xs i x at = slice_get-map f xs i ∙ ap (option_map f) at

  pub from-mapped : (xs : List X) (i : ℕ) (y : Y) → slice_get (map f xs) i ≡ Some y
      → (x : X) × (slice_get xs i ≡ Some x) × (f x ≡ y)
  from-mapped xs i y at = from_part (slice_get xs i) y (sym (slice_get-map f xs i) ∙ at)

-- ---- an entry that moves
pub moved_at-is : {A B : Type 0} (es : List (A × B)) (j b : ℕ) (e : A × B) → slice_get es j ≡ Some e
    → moved_at es j b ≡ insert (remove es j) (place_left j b) e
moved_at-is es j b e at = rw at refl

pub moved-map : {A B C D : Type 0} (f : A × B → C × D) (es : List (A × B)) (j b : ℕ)
    → map f (moved_at es j b) ≡ moved_at (map f es) j b
moved-map f es j b =
    rw (slice_get-map f es j, ← remove-map f es j)
    (elim (slice_get es j) as (λ o. map f (option_map_or (insert (remove es j) (place_left j b)) o es)
    ≡ option_map_or (insert (map f (remove es j)) (place_left j b)) (option_map f o) (map f es))
    [ None ↦ refl | Some e ↦ insert-map f (remove es j) (place_left j b) e ])

pub place_left-before : (j b : ℕ) → j < b → place_left j b ≡ b - 1
place_left-before j b lt = rw (lt-ltb j b lt) refl

pub place_left-past : (j b : ℕ) → b ≤ j → place_left j b ≡ b
place_left-past j b le = rw (le-ltb j b le) refl

pub place_left-first : (b : ℕ) → place_left 0 (suc b) ≡ b
place_left-first b = grind (arith, nat_tests)

pub place_left-suc : (j b : ℕ) → place_left (suc j) (suc b) ≡ suc (place_left j b)
place_left-suc j b = grind (arith, nat_tests)

-- ---- the place of a key
unwrap-later : (o : Option ℕ) (n : ℕ) → unwrap_or (option_map (λ j. j + 1) o) (suc n) ≡ suc (unwrap_or o n)
unwrap-later None n = refl
unwrap-later (Some j) n = add-one j

module _ {A B : Type 0} (eq : A → A → Bool) where
  pub place_or_end-cons : (e : A × B) (es : List (A × B)) (k : A)
      → place_or_end eq (e ∷ es) k ≡ cond (eq k e.0) 0 (suc (place_or_end eq es k))
  place_or_end-cons e es k =
      elim (eq k e.0) as (λ b. unwrap_or (cond b (Some 0) (option_map (λ j. j + 1) (place_of (eq k) es)))
      (suc (length es)) ≡ cond b 0 (suc (place_or_end eq es k)))
      [ true ↦ refl | false ↦ unwrap-later (place_of (eq k) es) (length es) ]

  pub place_or_end-most : (es : List (A × B)) (k : A) → place_or_end eq es k ≤ length es
  place_or_end-most [] k = omega arith
  place_or_end-most (e ∷ es) k =
      rw (place_or_end-cons e es k)
      (elim (eq k e.0) as (λ b. cond b 0 (suc (place_or_end eq es k)) ≤ suc (length es))
      [ true ↦ omega arith | false ↦ omega (arith, place_or_end-most es k) ])

  -- the entry that is taken out by its key is the one at the key's place
  pub remove_entry-at : (es : List (A × B)) (k : A) → remove_entry (eq k) es
      ≡ remove es (place_or_end eq es k)
  remove_entry-at [] k = refl
  remove_entry-at (e ∷ es) k =
      rw (place_or_end-cons e es k)
      (elim (eq k e.0) as (λ b. cond b es (e ∷ remove_entry (eq k) es)
      ≡ remove (e ∷ es) (cond b 0 (suc (place_or_end eq es k))))
      [ true ↦ refl | false ↦ ap (λ r. e ∷ r) (remove_entry-at es k) ])

  -- keys stay pairwise unequal
  module _ (laws : IsEquivalence eq) (es : List (A × B)) (d : IsEntries eq es) where
    module _ (j : ℕ) (e : A × B) (at : slice_get es j ≡ Some e) where
      split : IsEntries eq (take j es ++ e ∷ drop (suc j) es)
      split = subst (IsEntries eq)
          (sym (take-append-drop j es) ∙ ap (λ ys. take j es ++ ys) (drop-at es j e at)) d

      pub IsEntries-removed : IsEntries eq (remove es j)
      IsEntries-removed = IsEntries-middle eq laws (take j es) e (drop (suc j) es) split

      pub none-removed : NonePasses (eq e.0) (remove es j)
      none-removed = none_others eq laws (take j es) e (drop (suc j) es) split

    pub IsEntries-inserted : (i : ℕ) (e : A × B) → NonePasses (eq e.0) es → IsEntries eq (insert es i e)
    IsEntries-inserted i e none =
        IsEntries-insert eq laws (take i es) e (drop i es) (rw (take-append-drop i es) none)
        (rw (take-append-drop i es) d)

    -- the key of an entry that was put in differs from all other keys
    pub none-inserted : (fs : List (A × B)) (i : ℕ) (e : A × B) → es ≡ insert fs i e → NonePasses (eq e.0) fs
    none-inserted fs i e is =
        subst (NonePasses (eq e.0)) (take-append-drop i fs)
        (none_others eq laws (take i fs) e (drop i fs) (subst (IsEntries eq) is d))

-- the key at the first place where one passes passes
pub passes-at : {A B : Type 0} (test : A → Bool) (es : List (A × B)) (j : ℕ) (e : A × B)
    → place_of test es ≡ Some j → slice_get es j ≡ Some e → test e.0 ≡ true
passes-at test es j e p at =
    let s = stands_from_place test es j p in
    let here : slice_get es j ≡ Some s.1 = ap (λ l. slice_get l j) s.3.is
    ∙ ap (slice_get (s.0 ++ s.1 ∷ s.2)) (sym s.4) ∙ slice_get_here s.0 s.1 s.2 in
    let same : s.1 ≡ e = cc (sym here ∙ at) in
    ap (λ y. test y.0) (sym same) ∙ s.3.passes
