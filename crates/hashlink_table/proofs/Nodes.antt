-- The nodes of a list of cells: after a write, one by one, and in a loop that inserts them.
use Rattle.hashlink_table.proofs.Names
use Names.{◌≡◌, ℕ, zero, suc, ◌+◌, ◌<◌, ◌≤◌, List, [], ◌∷◌, ◌++◌, length, get_or, set, replicate, take, drop}
use Names.{true, false, inl, inr, cases_eq, true≢false, Bool, Option, Some, None, is_some}
use Names.{refl, sym, ap, ◌∙◌, subst}
use Names.{arith, Contains}
use Names.{IsPermutation, take_more, take-append-drop, length-append, IsPermutation-refl, IsPermutation-trans}
use Names.{IsPermutation-cons, IsPermutation-middle, IsPermutation-to_front, Hashed, Cell, kept_at, stored_in}
use Names.{with_node, nodes_in, SameNodes, bare_cell, append-nil, emptied, map}

module _ {N : Type 0} where
  -- two nodes may change places
  exchanged : (j k : Hashed N) (ks : List (Hashed N)) → IsPermutation (j ∷ k ∷ ks) (k ∷ j ∷ ks)
  exchanged j k ks = IsPermutation-middle (j ∷ []) k ks

  -- at most one node is added in front of a list, before or after another one
  with_exchanged : (a b : Option (Hashed N)) (ks : List (Hashed N))
      → IsPermutation (with_node a (with_node b ks)) (with_node b (with_node a ks))
  with_exchanged None b ks = IsPermutation-refl _
  with_exchanged (Some j) None ks = IsPermutation-refl _
  with_exchanged (Some j) (Some k) ks = exchanged j k ks

  with_permuted : (a : Option (Hashed N)) (ks js : List (Hashed N)) → IsPermutation ks js
      → IsPermutation (with_node a ks) (with_node a js)
  with_permuted None ks js p = p
  with_permuted (Some j) ks js p = IsPermutation-cons j ks js p

  -- the nodes after a write to a cell: the new one is added, and the old one is gone
  pub nodes_in-set : (cells : List (Cell N)) (i : ℕ) (c : Cell N) → i < length cells
      → IsPermutation (with_node c.kept (nodes_in cells))
      (with_node (kept_at cells i) (nodes_in (set cells i c)))
  nodes_in-set [] i c h = absurd (omega arith)
  nodes_in-set (x ∷ xs) zero c h = with_exchanged c.kept x.kept (nodes_in xs)
  nodes_in-set (x ∷ xs) (suc i) c h =
      let rest = nodes_in-set xs i c (omega arith) in
      IsPermutation-trans _ _ _ (with_exchanged c.kept x.kept (nodes_in xs))
      (IsPermutation-trans _ _ _ (with_permuted x.kept _ _ rest)
      (with_exchanged x.kept (kept_at xs i) (nodes_in (set xs i c))))

  -- if each cell keeps its node, the nodes are the same
  pub nodes_in-same : (cells later : List (Cell N)) → SameNodes cells later → nodes_in later ≡ nodes_in cells
  nodes_in-same [] [] e = refl
  nodes_in-same [] (y ∷ ys) e = absurd (cc e)
  nodes_in-same (x ∷ xs) [] e = absurd (cc e)
  nodes_in-same (x ∷ xs) (y ∷ ys) e =
      let here : stored_in y ≡ stored_in x = cc e in
      let there : SameNodes xs ys = cc e in
      ap (λ (s : Option (Hashed N) × Bool). with_node s.0 (nodes_in ys)) here
      ∙ ap (with_node x.kept) (nodes_in-same xs ys there)

  pub nodes_in-append : (cells more : List (Cell N)) → nodes_in (cells ++ more)
      ≡ nodes_in cells ++ nodes_in more
  nodes_in-append [] more = refl
  nodes_in-append (x ∷ xs) more =
      let rest = nodes_in-append xs more in
      elim x.kept as (λ k. with_node k (nodes_in (xs ++ more)) ≡ with_node k (nodes_in xs) ++ nodes_in more)
      [ None ↦ rest | Some k ↦ ap (λ ks. k ∷ ks) rest ]

  -- the nodes of the first cells and of one more; they are among the nodes of all cells
  pub nodes_in-more_at : (cells : List (Cell N)) (i : ℕ) → i < length cells
      → nodes_in (take (i + 1) cells) ≡ nodes_in (take i cells) ++ with_node (kept_at cells i) []
  nodes_in-more_at cells i h =
      ap nodes_in (take_more cells i bare_cell h)
      ∙ nodes_in-append (take i cells) (get_or cells i bare_cell ∷ [])

  pub nodes_in-part : (cells : List (Cell N)) (i : ℕ) → length (nodes_in (take i cells)) ≤ length
      (nodes_in cells)
  nodes_in-part cells i =
      let all = ap nodes_in (sym (take-append-drop i cells)) ∙ nodes_in-append (take i cells)
      (drop i cells) in
      omega (arith, ap length all, length-append (nodes_in (take i cells)) (nodes_in (drop i cells)))

  -- one more node was put
  pub put_on : (done more now later : List (Hashed N)) (k : Hashed N) → more ≡ done ++ k ∷ []
      → IsPermutation done now → IsPermutation (k ∷ now) later → IsPermutation more later
  put_on done more now later k next before step =
      subst (λ ks. IsPermutation ks later) (sym next)
      (IsPermutation-trans _ _ _ (IsPermutation-to_front done k)
      (IsPermutation-trans _ _ _ (IsPermutation-cons k _ _ before) step))

  -- bare cells have no nodes
  pub nodes_in-bare : (n : ℕ) → nodes_in (replicate n (bare_cell {N = N})) ≡ []
  nodes_in-bare zero = refl
  nodes_in-bare (suc n) = nodes_in-bare n

  pub nodes_in-emptied : (cells : List (Cell N)) → nodes_in (map emptied cells) ≡ []
  nodes_in-emptied [] = refl
  nodes_in-emptied (c ∷ cs) = nodes_in-emptied cs

  -- if each cell has a node, there are as many nodes as cells
  pub nodes_in-full : (cells : List (Cell N)) → ((i : ℕ) → i < length cells → is_some (kept_at cells i)
      ≡ true)
      → length (nodes_in cells) ≡ length cells
  nodes_in-full [] all = refl
  nodes_in-full (x ∷ xs) all =
      let rest = nodes_in-full xs (λ i h. all (suc i) (omega arith)) in
      elim x.kept as (λ k. is_some k ≡ true → length (with_node k (nodes_in xs)) ≡ suc (length xs))
      [ None ↦ λ e. absurd (cc e) | Some k ↦ λ e. ap suc rest ] (all zero (omega arith))

  -- the node of a cell is among the nodes
  pub contains-at : (cells : List (Cell N)) (i : ℕ) (k : Hashed N) → kept_at cells i ≡ Some k
      → Contains (nodes_in cells) k
  contains-at [] i k e = absurd (cc e)
  contains-at (x ∷ xs) zero k e = rw e (zero, omega arith, refl)
  contains-at (x ∷ xs) (suc i) k e =
      let rest = contains-at xs i k e in
      elim x.kept as (λ j. Contains (with_node j (nodes_in xs)) k)
      [ None ↦ rest | Some j ↦ (suc rest.0, omega (arith, rest.1), rest.2) ]

  -- each node is that of a cell
  pub at-contains : (cells : List (Cell N)) (k : Hashed N) → Contains (nodes_in cells) k
      → (i : ℕ) × (kept_at cells i ≡ Some k)
  at-contains [] k (j, h, e) = absurd (omega arith)
  at-contains (x ∷ xs) k c = by (at-contains xs k) x.kept refl c
    where
      by : (Contains (nodes_in xs) k → (i : ℕ) × (kept_at xs i ≡ Some k)) → (o : Option (Hashed N)) → x.kept
          ≡ o
          → Contains (with_node o (nodes_in xs)) k
          → (i : ℕ) × (kept_at (x ∷ xs) i ≡ Some k)
      by rest None is there = let r = rest there in (suc r.0, r.1)
      by rest (Some j) is (zero, h, e) = (zero, is ∙ ap Some e)
      by rest (Some j) is (suc n, h, e) = let r = rest (n, omega arith, e) in (suc r.0, r.1)

-- the nodes of the first cells and of one more, whose node, if any, is the last
module _ {N : Type 0} (cells : List (Cell N)) (count : ℕ) (low : count < length cells) (o : Option (Hashed N))
    (is : o ≡ kept_at cells count) where
  pub next_in : (p : Option (Hashed N)) → o ≡ p
      → nodes_in (take (count + 1) cells) ≡ nodes_in (take count cells) ++ with_node p []
  next_in p e =
      nodes_in-more_at cells count low ∙ ap (λ q. nodes_in (take count cells) ++ with_node q []) (sym is ∙ e)

  pub next_some : (k : Hashed N) → o ≡ Some k
      → nodes_in (take (count + 1) cells) ≡ nodes_in (take count cells) ++ k ∷ []
  next_some k e = next_in (Some k) e

  pub next_none : o ≡ None → nodes_in (take (count + 1) cells) ≡ nodes_in (take count cells)
  next_none e = next_in None e ∙ append-nil (nodes_in (take count cells))

-- the nodes of the first cells, and of cells after them that have none
pub nodes_in-passed : {N : Type 0} (cells : List (Cell N)) (at to : ℕ) → at ≤ to → to ≤ length cells
    → ((i : ℕ) → at ≤ i → i < to → is_some (kept_at cells i) ≡ false)
    → nodes_in (take to cells) ≡ nodes_in (take at cells)
nodes_in-passed cells at zero low high none =
    let start : at ≡ zero = omega (arith, low) in ap (λ n. nodes_in (take n cells)) (sym start)
nodes_in-passed cells at (suc to) low high none =
    elim (cases_eq at (suc to)) as (λ _. nodes_in (take (suc to) cells) ≡ nodes_in (take at cells)) [
      | inl e ↦ ap (λ n. nodes_in (take n cells)) (sym e)
      | inr less ↦
          let next : to + 1 ≡ suc to = omega arith in
          ap (λ n. nodes_in (take n cells)) (sym next)
          ∙ next_none cells to (omega (arith, high)) (kept_at cells to) refl
          (none_by (kept_at cells to) (none to (omega (arith, low, less)) (omega arith)))
          ∙ nodes_in-passed cells at to (omega (arith, low, less)) (omega (arith, high))
          (λ i from to_i. none i from (omega (arith, to_i)))
    ]
  where
    none_by : {A : Type 0} (o : Option A) → is_some o ≡ false → o ≡ None
    none_by None e = refl
    none_by (Some x) e = absurd (true≢false e)
