-- An iterator along a ring, by its places at both ends.
use Rattle.std.{specs.Iterator.{MakesProgress, at_most}, proofs.Common.length-append}
use Rattle.hashlink_core.proofs.Names
use Names.{◌≡◌, ℕ, zero, suc, ◌+◌, ◌-◌, ◌<◌, ◌≢◌, true, false, cond, List, [], ◌∷◌, ◌++◌, length, take, drop}
use Names.{Option, None, Some, refl, ap, sym, ◌∙◌, arith, ⊎_elim, slice_get, is_some, unwrap_or, IfSome}
use Names.{IsDistinct, option_map, lookup, keys_of, TakesFirst, TakesLast, ShowsInOrder, ShowsInReverse}
use Names.{from_front, from_back, take-length, take-suc, cases_lt, slice_get_within, get_or_from_slice_get}
use Names.{preceding_place, place_or_end, Node, Entry, same_node, next_place, prev_place, pair_of, Holds}
use Names.{pairs_in, place_number, drop-at, place_or_end-cons, place_or_end-most, node-at, around}
use Names.{following-within, IfNone, IsEntries}
use Rattle.hashlink_core.specs.Walk.{pairs_from, StandsBetween}
use Rattle.hashlink_core.proofs.Neighbours.{distinct-left, next-number, prev-number, before-guard, before-suc}

-- each run of an iterator returns the entries left: in order from the front, in reverse from the back
pub in-order : {A X : Type 0} (shows : A → X) → ShowsInOrder shows
in-order shows = from_front (TakesFirst shows) shows (λ s. s) (λ s t h. ap length h.0) (λ s x t h. h)

pub in-reverse : {A X : Type 0} (shows : A → X) → ShowsInReverse shows
in-reverse shows = from_back (TakesLast shows) shows (λ s. s) (λ s t h. ap length h.0) (λ s x t h. h)

-- a step that leaves fewer entries makes progress to the end
pub progress : {A X : Type 0} {s t : List X} (x : A) → length t < length s
    → MakesProgress (λ _. Unit {0}) (λ l. at_most (length l)) s (Some x) t
progress x fewer = record { on = λ _. (tt, tt, fewer); keeps = tt; rests = λ _. tt }

pub progress-back : {A X : Type 0} (shows : A → X) {s t : List X} (x : A) → s ≡ t ++ shows x ∷ []
    → MakesProgress (λ _. Unit {0}) (λ l. at_most (length l)) s (Some x) t
progress-back shows {t = t} x is = progress x (omega (arith, ap length is, length-append t (shows x ∷ [])))

module _ {X : Type 0} where
  -- if none are taken, the place does not matter
  take-from : (xs : List X) (n i j : ℕ) → (0 < n → i ≡ j) → take n (drop i xs) ≡ take n (drop j xs)
  take-from xs zero i j same = refl
  take-from xs (suc n) i j same = ap (λ m. take (suc n) (drop m xs)) (same (omega arith))

  pub slice_get-drop : (xs : List X) (i j at : ℕ) → i + j ≡ at → slice_get (drop i xs) j ≡ slice_get xs at
  slice_get-drop xs zero j at is = let same : j ≡ at = omega (arith, is) in ap (slice_get xs) same
  slice_get-drop [] (suc i) j zero is = absurd (omega (arith, is))
  slice_get-drop [] (suc i) j (suc at) is = refl
  slice_get-drop (y ∷ xs) (suc i) j zero is = absurd (omega (arith, is))
  slice_get-drop (y ∷ xs) (suc i) j (suc at) is = slice_get-drop xs i j at (omega (arith, is))

  -- a node whose index is below the guard's is in the list
  pub within-holds : (es : List (Node × X)) (n : Node) → place_number es (Some n) < length es → Holds es n
  within-holds [] n lt = absurd (omega (arith, lt))
  within-holds (e ∷ es) n lt =
      (elim (same_node n e.0) as (λ b. cond b 0 (suc (place_or_end same_node es n)) < suc (length es)
      → is_some (cond b (Some e.1) (lookup (same_node n) es)) ≡ true)
      [ true ↦ λ _. refl | false ↦ λ k. within-holds es n (omega (arith, k)) ])
      (rw (place_or_end-cons same_node e es n) at lt)

pub pairs_in-last : {K V : Type 0} (es : List (Node × Entry K V)) (n : Node) (h : Entry K V)
    → pairs_in (es ++ (n, h) ∷ []) ≡ pairs_in es ++ pair_of h ∷ []
pairs_in-last [] n h = refl
pairs_in-last (e ∷ es) n h = ap (λ ps. pair_of e.1 ∷ ps) (pairs_in-last es n h)

module _ {X : Type 0} (es : List (Node × X)) where
  -- the node of a place that is not the guard
  beside-number : (o : Option Node) (q : Node) (i : ℕ) → IfSome o (λ m. q ≡ m) → place_number es o ≡ i
      → i < length es → place_number es (Some q) ≡ i
  beside-number None q i same number lt = absurd (omega (arith, number, lt))
  beside-number (Some m) q i same number lt = ap (λ n. place_number es (Some n)) same ∙ number

  -- the index of a node that the list does not have is the guard's
  absent-number : (q : Node) → lookup (same_node q) es ≡ None → place_number es (Some q) ≡ length es
  absent-number q none =
      ⊎_elim (λ lt. absurd (cc (sym (within-holds es q lt) ∙ ap is_some none)))
      (λ le. omega (arith, le, place_or_end-most same_node es q))
      (cases_lt (place_number es (Some q)) (length es))

  same-place-number : (o : Option Node) (q : Node) (i : ℕ) → IfSome o (λ m. q ≡ m)
      → IfNone o (lookup (same_node q) es ≡ None) → place_number es o ≡ i → place_number es (Some q) ≡ i
  same-place-number None q i same absent number = absent-number q absent ∙ number
  same-place-number (Some m) q i same absent number = ap (λ n. place_number es (Some n)) same ∙ number

  module _ (d : IsEntries same_node es) (n q : Node) (there : Holds es n) where
    within : place_number es (Some n) < length es
    within = (node-at es n there).1.within

    -- the index of the node after n
    pub after-number : IfSome (next_place (keys_of es) (Some n)) (λ m. q ≡ m)
        → IfNone (next_place (keys_of es) (Some n)) (lookup (same_node q) es ≡ None)
        → place_number es (Some q) ≡ suc (place_number es (Some n))
    after-number same absent =
        same-place-number (next_place (keys_of es) (Some n)) q _ same absent
        ((next-number es d (Some n) there).number
        ∙ following-within (length es) (place_number es (Some n)) within)

    -- the index of the node before n
    pub before-number : IfSome (prev_place (keys_of es) (Some n)) (λ m. q ≡ m)
        → 0 < place_number es (Some n) → place_number es (Some q) + 1 ≡ place_number es (Some n)
    before-number same later =
        let i = place_number es (Some n) in
        let more : i ≡ suc (i - 1) = omega (arith, later) in
        let before : place_number es (Some q) ≡ i - 1 =
        beside-number (prev_place (keys_of es) (Some n)) q (i - 1) same
        ((prev-number es d (Some n) there).number ∙ ap (preceding_place (length es)) more
        ∙ before-suc (length es) (i - 1) (omega (arith, within)))
        (omega (arith, within, more)) in
        omega (arith, before, more)

  -- the index of a place's node, or of z at the guard if the list is empty
  pub node-number : (o : Option Node) (z : Node) (i : ℕ) → place_number es o ≡ i → (length es ≡ i → i ≡ 0)
      → place_number es (Some (unwrap_or o z)) ≡ i
  node-number None z i number none = omega (arith, number, none number, place_or_end-most same_node es z)
  node-number (Some m) z i number none = number

-- an iterator over all entries
pub walk-of_all : {K V : Type 0} (es : List (Node × Entry K V)) (free : List Node) (q q' : Option Node)
    (z z' first last : Node) (left : ℕ) → IsDistinct same_node (keys_of es ++ free)
    → q ≡ next_place (keys_of es) None → first ≡ unwrap_or q z
    → q' ≡ prev_place (keys_of es) None → last ≡ unwrap_or q' z' → left ≡ length es
    → StandsBetween es (Some first) (Some last) left × (pairs_from es (Some first) left ≡ pairs_in es)
walk-of_all es free q q' z z' first last left apart next is_first prev is_last all =
    let d = distinct-left (keys_of es) free apart in
    let front : place_number es (Some first) ≡ 0 = ap (λ m. place_number es (Some m)) is_first
    ∙ node-number es q z 0 (ap (place_number es) next ∙ (next-number es d None tt).number
    ∙ around (length es)) (λ e. refl) in
    let back : place_number es (Some last) ≡ length es - 1 = ap (λ m. place_number es (Some m)) is_last
    ∙ node-number es q' z' (length es - 1) (ap (place_number es) prev ∙ (prev-number es d None tt).number
    ∙ before-guard (length es)) (λ e. omega (arith, e)) in (
      record { few = omega (arith, all, front); ends = λ some. omega (arith, all, some, front, back) },
      rw (front, all, take-length es) refl,
    )

module _ {K V : Type 0} {es : List (Node × Entry K V)} {first last : Node} {left : ℕ}
    (w : StandsBetween es (Some first) (Some last) left) (some : left ≢ 0) where
  one-more : left ≡ suc (left - 1)
  one-more = omega (arith, some)

  -- ---- at the front
  pub first-holds : Holds es first
  first-holds = within-holds es first (omega (arith, w.few, some))

  module _ (free : List Node) (apart : IsDistinct same_node (keys_of es ++ free)) (q : Node)
      (next : IfSome (next_place (keys_of es) (Some first)) (λ m. q ≡ m)) where
    next-first : 1 < left → place_number es (Some q) ≡ suc (place_number es (Some first))
    next-first more =
        beside-number es (next_place (keys_of es) (Some first)) q (suc (place_number es (Some first))) next
        ((next-number es (distinct-left (keys_of es) free apart) (Some first) first-holds).number
        ∙ following-within (length es) (place_number es (Some first)) (node-at es first first-holds).1.within)
        (omega (arith, w.few, more))

    pub stands-next : StandsBetween es (Some q) (Some last) (left - 1)
    stands-next = record {
      few = ⊎_elim (λ more. omega (arith, w.few, next-first more))
          (λ last. omega (arith, last, place_or_end-most same_node es q)) (cases_lt 1 left);
      ends = λ more. omega (arith, w.ends (omega (arith, some)), more, next-first (omega (arith, more)));
    }

    pub gives-first : (pair : K × V) → option_map pair_of (lookup (same_node first) es) ≡ Some pair
        → pairs_from es (Some first) left ≡ pair ∷ pairs_from es (Some q) (left - 1)
    gives-first pair here =
        let x = node-at es first first-holds in
        let i = place_number es (Some first) in
        let same : pair_of x.0 ≡ pair = cc (sym (ap (option_map pair_of) x.1.found) ∙ here) in
        ap (λ m. pairs_in (take m (drop i es))) one-more
        ∙ ap (λ l. pairs_in (take (suc (left - 1)) l)) (drop-at es i (first, x.0) x.1.at)
        ∙ ap (λ f. f ∷ pairs_in (take (left - 1) (drop (suc i) es))) same
        ∙ ap (λ l. pair ∷ pairs_in l) (take-from es (left - 1) (suc i) (place_number es (Some q))
        (λ more. sym (next-first (omega (arith, more)))))

  -- ---- at the back
  last-number : place_number es (Some last) + 1 ≡ place_number es (Some first) + left
  last-number = w.ends (omega (arith, some))

  pub last-holds : Holds es last
  last-holds = within-holds es last (omega (arith, w.few, last-number))

  module _ (free : List Node) (apart : IsDistinct same_node (keys_of es ++ free)) (q : Node)
      (prev : IfSome (prev_place (keys_of es) (Some last)) (λ m. q ≡ m)) where
    prev-last : 1 < left → place_number es (Some q) + 1 ≡ place_number es (Some last)
    prev-last more = before-number es (distinct-left (keys_of es) free apart) last q last-holds prev
        (omega (arith, last-number, more))

    pub stands-prev : StandsBetween es (Some first) (Some q) (left - 1)
    stands-prev = record {
      few = omega (arith, w.few);
      ends = λ more. omega (arith, last-number, more, prev-last (omega (arith, more)));
    }

  pub gives-last : (pair : K × V) → option_map pair_of (lookup (same_node last) es) ≡ Some pair
      → pairs_from es (Some first) left ≡ pairs_from es (Some first) (left - 1) ++ pair ∷ []
  gives-last pair here =
      let x = node-at es last last-holds in
      let i = place_number es (Some first) in
      let far : i + (left - 1) ≡ place_number es (Some last) = omega (arith, last-number, some) in
      let at : slice_get (drop i es) (left - 1) ≡ Some (last, x.0) =
      slice_get-drop es i (left - 1) (place_number es (Some last)) far ∙ x.1.at in
      let same : pair_of x.0 ≡ pair = cc (sym (ap (option_map pair_of) x.1.found) ∙ here) in
      ap (λ m. pairs_in (take m (drop i es))) one-more
      ∙ ap pairs_in (take-suc (drop i es) (left - 1) (last, x.0) (slice_get_within _ _ _ at)
      ∙ ap (λ y. take (left - 1) (drop i es) ++ y ∷ [])
      (get_or_from_slice_get (drop i es) (left - 1) _ (last, x.0) at))
      ∙ pairs_in-last (take (left - 1) (drop i es)) last x.0
      ∙ ap (λ p. pairs_from es (Some first) (left - 1) ++ p ∷ []) same
