-- The next place and the previous one, by their indices.
use Rattle.hashlink_core.proofs.Names
use Names.{◌≡◌, inl, inr, ℕ, zero, suc, ◌+◌, ◌-◌, ◌%◌, ◌<◌, ◌≤◌, false, cond, List, [], ◌∷◌, ◌++◌, length}
use Names.{Option, None, Some, refl, ap, sym, ◌∙◌, arith, slice_get, unwrap_or, keys_of, length-keys_of}
use Names.{slice_get_cases, slice_get_within, get_or_from_slice_get, following_place, preceding_place}
use Names.{IsEntries, each-left, place_of_its_key, Node, same_node, same_node_equiv, node_after, node_before}
use Names.{last_node, next_place, prev_place, IsPlace, place_number, IsPlaceAt, from-mapped, node-at, around}
use Names.{following-within, IfNone, values_of, length-values_of}
use Rattle.std.{specs.List.IsDistinct, proofs.lemmas.{List.nil_from_length, Map.Made.is_some-lookup}}
use Rattle.std.proofs.lemmas.Map.Keys.{IsDistinct-tail, apart_from_distinct, any_passes_from_place}
use native.Mathlib.Nat.{mod-eq_of_lt, add-mod_right, zero-add}

-- ---- nodes
pub distinct-left : (xs ys : List Node) → IsDistinct same_node (xs ++ ys) → IsDistinct same_node xs
unfolding IsDistinct
distinct-left [] ys d = tt
distinct-left (x ∷ xs) ys d = (each-left _ xs ys d.0, distinct-left xs ys d.1)

other-at : (m : Node) (ns : List Node) (i : ℕ) (n : Node) → IsDistinct same_node (m ∷ ns)
    → slice_get ns i ≡ Some n
    → same_node n m ≡ false
other-at m ns i n d at =
    let apart = apart_from_distinct same_node (m ∷ ns) 0 (suc i) n d (omega arith)
    (omega (arith, slice_get_within ns i n at)) in
    same_node_equiv.symm n m ∙ ap (same_node m) (sym (get_or_from_slice_get ns i n n at)) ∙ apart

pub node_after-at : (ns : List Node) (i : ℕ) (n : Node) → IsDistinct same_node ns → slice_get ns i ≡ Some n
    → node_after n ns ≡ slice_get ns (suc i)
node_after-at [] i n d at = absurd (cc)
node_after-at (m ∷ ns) zero n d at =
    let same : m ≡ n = cc in
    ap (λ b. cond b (slice_get ns 0) (node_after n ns)) (ap (same_node n) same ∙ same_node_equiv.refl n)
node_after-at (m ∷ ns) (suc i) n d at =
    ap (λ b. cond b (slice_get ns 0) (node_after n ns)) (other-at m ns i n d at)
    ∙ node_after-at ns i n (IsDistinct-tail same_node m ns d) at

-- the node before the one at i; for the first node, `before`
abbrev before_at : Option Node → List Node → ℕ → Option Node
before_at before ns zero = before
before_at before ns (suc i) = slice_get ns i

before-later : (m : Node) (ns : List Node) (i : ℕ) → before_at (Some m) ns i ≡ slice_get (m ∷ ns) i
before-later m ns zero = refl
before-later m ns (suc i) = refl

node_before-at : (before : Option Node) (ns : List Node) (i : ℕ) (n : Node) → IsDistinct same_node ns
    → slice_get ns i ≡ Some n → node_before n before ns ≡ before_at before ns i
node_before-at before [] i n d at = absurd (cc)
node_before-at before (m ∷ ns) zero n d at =
    let same : m ≡ n = cc in
    ap (λ b. cond b before (node_before n (Some m) ns)) (ap (same_node n) same ∙ same_node_equiv.refl n)
node_before-at before (m ∷ ns) (suc i) n d at =
    ap (λ b. cond b before (node_before n (Some m) ns)) (other-at m ns i n d at)
    ∙ node_before-at (Some m) ns i n (IsDistinct-tail same_node m ns d) at ∙ before-later m ns i

last_node-later : (m : Node) (ns : List Node) → last_node (Some m) ns ≡ slice_get (m ∷ ns) (length ns)
last_node-later m [] = refl
last_node-later m (n ∷ ns) = last_node-later n ns

last_node-at : (ns : List Node) → last_node None ns ≡ slice_get ns (length ns - 1)
last_node-at [] = refl
last_node-at (m ∷ ns) =
    let one_less : length ns ≡ suc (length ns) - 1 = omega arith in
    last_node-later m ns ∙ ap (slice_get (m ∷ ns)) one_less

-- ---- the previous place, by its index
pub before-suc : (n i : ℕ) → i ≤ n → preceding_place n (suc i) ≡ i
before-suc n i le =
    let more : suc i + n ≡ i + (n + 1) = omega arith in
    ap (λ m. m % (n + 1)) more ∙ add-mod_right i (n + 1) ∙ mod-eq_of_lt (omega arith)

before-first : (n : ℕ) → preceding_place n 0 ≡ n
before-first n = ap (λ m. m % (n + 1)) (zero-add n) ∙ mod-eq_of_lt (omega arith)

pub before-guard : (n : ℕ) → preceding_place n n ≡ n - 1
before-guard zero = refl
before-guard (suc n) = before-suc (suc n) n (omega arith) ∙ omega arith

-- ---- entries with their nodes
module _ {X : Type 0} (es : List (Node × X)) (d : IsEntries same_node es) where
  -- the node at i, or the guard after the last, is the place with the index i
  pub place-at : (i : ℕ) → i ≤ length es → IsPlaceAt es (slice_get (keys_of es) i) i
  place-at i le =
      elim (slice_get_cases (keys_of es) i).1 as (λ _. IsPlaceAt es (slice_get (keys_of es) i) i) [
        | inl c ↦
            let e = from-mapped (λ (e : Node × X). e.0) es i c.0 c.2 in
            let itself = same_node_equiv.refl c.0 in
            rw c.2 (record {
              within = is_some-lookup (same_node c.0) es
                  ∙ any_passes_from_place (same_node c.0) (keys_of es) i c.0 c.2 itself;
              number = ap (λ o. unwrap_or o (length es))
                  (place_of_its_key same_node same_node_equiv es i e.0 c.0 d e.1
                  (ap (same_node c.0) e.2 ∙ itself));
            })
        | inr c ↦ rw c.1 (record { within = tt; number = omega (arith, c.0, length-keys_of es) })
      ]

  pub next-number : (p : Option Node) → IsPlace es p
      → IsPlaceAt es (next_place (keys_of es) p) (following_place (length es) (place_number es p))
  next-number None within = rw (around (length es)) (place-at 0 (omega arith))
  next-number (Some n) within =
      let x = node-at es n within in
      let j = place_number es (Some n) in
      rw (following-within (length es) j x.1.within, node_after-at (keys_of es) j n d x.1.key_at)
      (place-at (suc j) (omega (arith, x.1.within)))

  before-number : (j : ℕ) (n : Node) → slice_get (keys_of es) j ≡ Some n → j < length es
      → IsPlaceAt es (node_before n None (keys_of es)) (preceding_place (length es) j)
  before-number zero n at lt = rw (node_before-at None (keys_of es) 0 n d at, before-first (length es))
      (record { within = tt; number = refl })
  before-number (suc i) n at lt =
      rw (node_before-at None (keys_of es) (suc i) n d at, before-suc (length es) i (omega arith))
      (place-at i (omega arith))

  pub prev-number : (p : Option Node) → IsPlace es p
      → IsPlaceAt es (prev_place (keys_of es) p) (preceding_place (length es) (place_number es p))
  prev-number None within = rw (before-guard (length es), last_node-at (keys_of es), length-keys_of es)
      (place-at (length es - 1) (omega arith))
  prev-number (Some n) within = let x = node-at es n within in
      before-number (place_number es (Some n)) n x.1.key_at x.1.within

-- ---- the guard stands where an entry would only if there is none
pub empty-at : {X : Type 0} (ns : List (Node × X)) (p : Option Node) (i : ℕ) → place_number ns p ≡ i
    → i ≤ length ns - 1
    → IfNone p (values_of ns ≡ [])
empty-at ns None i is within = nil_from_length (values_of ns) (omega (arith, is, within, length-values_of ns))
empty-at ns (Some n) i is within = tt
