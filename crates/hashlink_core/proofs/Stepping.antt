-- Ring and table stay in step: the table has the nodes of the entries after an entry is added, removed or
-- replaced, and after all are removed.
use Rattle.hashlink_core.proofs.Names
use Names.{◌≡◌, ℕ, suc, Bool, List, [], ◌∷◌, Some, refl, ap, sym, ◌∙◌, map, arith, ◌+◌, ◌-◌, ◌≤◌, true}
use Names.{length, ap₂, subst, IsEquivalence, IsDistinct, lookup, keys_of, values_of, slice_get, remove}
use Names.{Contains, IsPermutation, insert, length-map, get_or-map, NonePasses, Contains-tail}
use Names.{Contains-from_lookup, lookup-from_Contains, slice_get_within, get_or_from_slice_get, IsEntries-nil}
use Names.{none_equal, IsEntries, same_node, same_node_equiv, eq-same_node, Ring, ring, pair_of, Entry, Node}
use Names.{Contents, Keeps, nodes_of, pairs_in, IsInStep, numbered_nodes, short, element-at, at-element}
use Names.{mapped-at, from-mapped, length-inserted, length-removed, insert-map, remove-map, IsEntries-removed}
use Names.{IsEntries-inserted, none-removed}
use Rattle.std.proofs.lemmas.List.Sorted.{Contains-permutation, IsPermutation-sym, IsPermutation-refl}
use Rattle.std.proofs.lemmas.List.Sorted.{IsPermutation-cons, IsPermutation-trans, IsPermutation-map}
use Rattle.std.proofs.lemmas.List.Sorted.{IsPermutation-remove, length_permutation, IsPermutation-insert}
use Rattle.std.proofs.lemmas.Map.Keys.{IsDistinct-tail, IsDistinct-IsPermutation, apart_from_distinct}
use Rattle.hashlink_table.specs.declared.hashed.Hashed.{Hashed}

abbrev pub kept : ℕ → Node → Hashed Node
kept number n = record { hash = number; node = n }

-- ---- lists without a node twice that have the same elements

abbrev OnceEach : List (Hashed Node) → Type 0
OnceEach ks = IsDistinct same_node (map (λ k. k.node) ks)

abbrev HasAll : List (Hashed Node) → List (Hashed Node) → Type 0
HasAll js ks = (k : Hashed Node) → Contains ks k → Contains js k

once-permuted : (ks js : List (Hashed Node)) → IsPermutation ks js → OnceEach ks → OnceEach js
once-permuted ks js same =
    IsDistinct-IsPermutation same_node same_node_equiv.symm _ _ (IsPermutation-map (λ k. k.node) ks js same)

-- no element after k is k
not-again : (k j : Hashed Node) (ks : List (Hashed Node)) → OnceEach (k ∷ ks) → Contains ks j → k ≡ j → ⊥
not-again k j ks once c same =
    let long = length-map ks (λ (k : Hashed Node). k.node) in
    let other = apart_from_distinct same_node (map (λ k. k.node) (k ∷ ks)) 0 (suc c.0) j.node
    once (omega arith)
    (omega (arith, long, c.1)) in
    let at = get_or-map (λ (k : Hashed Node). k.node) ks c.0 j j.node c.1
    ∙ ap (λ k. k.node) (c.2 ∙ sym same) in
    absurd (cc (sym other ∙ ap (same_node k.node) at ∙ same_node_equiv.refl k.node))

has-tail : (k : Hashed Node) (js ks : List (Hashed Node)) → OnceEach (k ∷ ks) → HasAll (k ∷ js) (k ∷ ks)
    → HasAll js ks
has-tail k js ks once all j c =
    Contains-tail k js j (not-again k j ks once c) (all j (suc c.0, omega (arith, c.1), c.2))

same-elements : (ks js : List (Hashed Node)) → OnceEach ks → OnceEach js → HasAll js ks → HasAll ks js
    → IsPermutation ks js
same-elements [] [] a b all back = IsPermutation-refl []
same-elements [] (j ∷ js) a b all back = absurd (omega (arith, (back j (0, omega arith, refl)).1))
same-elements (k ∷ ks) js a b all back =
    let c = all k (0, omega arith, refl) in
    let first = IsPermutation-remove js c.0 k c.1 (sym c.2) in
    let once = once-permuted js (k ∷ remove js c.0) first b in
    IsPermutation-trans _ _ _
    (IsPermutation-cons k _ _ (same-elements ks (remove js c.0) (IsDistinct-tail same_node _ _ a)
    (IsDistinct-tail same_node _ _ once)
    (has-tail k (remove js c.0) ks a (λ j h. Contains-permutation _ _ j first (all j h)))
    (has-tail k ks (remove js c.0) once
    (λ j h. back j (Contains-permutation _ _ j (IsPermutation-sym _ _ first) h)))))
    (IsPermutation-sym _ _ first)

-- lists that begin with k have the same elements after it
pub after-first : (k : Hashed Node) (ks js : List (Hashed Node)) → OnceEach (k ∷ ks)
    → IsPermutation (k ∷ ks) (k ∷ js) → IsPermutation ks js
after-first k ks js a same =
    let b = once-permuted (k ∷ ks) (k ∷ js) same a in
    same-elements ks js (IsDistinct-tail same_node _ _ a) (IsDistinct-tail same_node _ _ b)
    (has-tail k js ks a (λ j. Contains-permutation _ _ j same))
    (has-tail k ks js b (λ j. Contains-permutation _ _ j (IsPermutation-sym _ _ same)))

-- ---- the ring and the table

-- what a removal took out of a table was in the table
pub was-kept : (t u : Contents Node) (number : ℕ) (n : Node) → IsPermutation t.nodes (kept number n ∷ u.nodes)
    → Keeps t number n
was-kept t u number n left =
    Contains-permutation (kept number n ∷ u.nodes) t.nodes (kept number n) (IsPermutation-sym _ _ left)
    (0, omega arith, refl)

pub nodes-numbered : {K V : Type 0} (es : List (Node × Entry K V))
    → map (λ k. k.node) (numbered_nodes es) ≡ keys_of es
nodes-numbered [] = refl
nodes-numbered (e ∷ es) = ap (λ ns. e.0 ∷ ns) (nodes-numbered es)

module _ {K V : Type 0} {eq : K → K → Bool} {hash : K → ℕ} {r : Ring K V} {t : Contents Node}
    (step : IsInStep eq hash r t) where
  -- the number of an entry is the short hash of its key
  pub number-at : (i : ℕ) (n : Node) (h : Entry K V) → slice_get r.entries i ≡ Some (n, h)
      → h.number ≡ short (hash h.key)
  number-at i n h at =
      let left = mapped-at (λ (e : Node × Entry K V). e.1.number) r.entries i (n, h) at in
      let right = mapped-at (λ (e : Node × Entry K V). short (hash e.1.key)) r.entries i (n, h) at in
      cc (sym left ∙ ap (λ l. slice_get l i) step.numbered ∙ right)

  module _ (n : Node) (h : Entry K V) (here : lookup (same_node n) r.entries ≡ Some h) where
    entry-in : Contains r.entries (n, h)
    entry-in = Contains-from_lookup eq-same_node n h r.entries here

    pub number-of : h.number ≡ short (hash h.key)
    number-of = number-at entry-in.0 n h (at-element r.entries (n, h) entry-in)

    -- its node is in the table under its number
    pub in-table : Keeps t h.number n
    in-table =
        Contains-permutation (numbered_nodes r.entries) t.nodes (kept h.number n) step.tied
        (element-at (numbered_nodes r.entries) entry-in.0 (kept h.number n)
        (mapped-at (λ (e : Node × Entry K V). kept e.1.number e.0) r.entries entry-in.0 (n, h)
        (at-element r.entries (n, h) entry-in)))

  -- each node of the table is in the ring, and its entry has the same number
  pub listed : (number : ℕ) (n : Node) → Keeps t number n
      → (h : Entry K V) × (lookup (same_node n) r.entries ≡ Some h) × (h.number ≡ number)
  listed number n there =
      let c = Contains-permutation t.nodes (numbered_nodes r.entries) (kept number n)
      (IsPermutation-sym _ _ step.tied) there in
      let x = from-mapped (λ (e : Node × Entry K V). kept e.1.number e.0) r.entries c.0 (kept number n)
      (at-element (numbered_nodes r.entries) (kept number n) c) in
      let same : x.0.0 ≡ n = ap (λ (k : Hashed Node). k.node) x.2 in (
        x.0.1,
        lookup-from_Contains same_node_equiv n x.0.1 r.entries step.apart
            (element-at r.entries c.0 (n, x.0.1) (x.1 ∙ ap (λ m. Some (m, x.0.1)) same)),
        ap (λ (k : Hashed Node). k.hash) x.2,
      )

module _ {K V : Type 0} where
  -- ---- the ring's pairs
  pub pairs-inserted : (es : List (Node × Entry K V)) (i : ℕ) (n : Node) (h : Entry K V)
      → pairs_in (insert es i (n, h)) ≡ insert (pairs_in es) i (pair_of h)
  pairs-inserted es i n h =
      ap values_of (insert-map (λ (e : Node × Entry K V). (e.0, pair_of e.1)) es i (n, h))
      ∙ insert-map (λ (e : Node × (K × V)). e.1) (nodes_of es) i (n, pair_of h)

  pub pairs-removed : (es : List (Node × Entry K V)) (j : ℕ) → pairs_in (remove es j) ≡ remove (pairs_in es) j
  pairs-removed es j = ap values_of (remove-map (λ (e : Node × Entry K V). (e.0, pair_of e.1)) es j)
      ∙ remove-map (λ (e : Node × (K × V)). e.1) (nodes_of es) j

  pub length-pairs : (es : List (Node × Entry K V)) → length (pairs_in es) ≡ length es
  length-pairs es = length-map (nodes_of es) (λ e. e.1) ∙ length-map es (λ e. (e.0, pair_of e.1))

  pub pairs-mapped : (es : List (Node × Entry K V)) → map (λ e. pair_of e.1) es ≡ pairs_in es
  pairs-mapped [] = refl
  pairs-mapped (e ∷ es) = ap (λ ps. pair_of e.1 ∷ ps) (pairs-mapped es)

  pub pair-at : (es : List (Node × Entry K V)) (j : ℕ) (n : Node) (h : Entry K V)
      → slice_get es j ≡ Some (n, h) → slice_get (pairs_in es) j ≡ Some (pair_of h)
  pair-at es j n h at =
      mapped-at (λ (e : Node × (K × V)). e.1) (nodes_of es) j (n, pair_of h)
      (mapped-at (λ (e : Node × Entry K V). (e.0, pair_of e.1)) es j (n, h) at)

  pub held-at : (es : List (Node × Entry K V)) (j : ℕ) (p : K × V) → slice_get (pairs_in es) j ≡ Some p
      → (e : Node × Entry K V) × (slice_get es j ≡ Some e) × (pair_of e.1 ≡ p)
  held-at es j p at =
      let x = from-mapped (λ (e : Node × (K × V)). e.1) (nodes_of es) j p at in
      let y = from-mapped (λ (e : Node × Entry K V). (e.0, pair_of e.1)) es j x.0 x.1 in
      (y.0, y.1, ap (λ e. e.1) y.2 ∙ x.2)

module _ {K V : Type 0} {eq : K → K → Bool} (laws : IsEquivalence eq) {hash : K → ℕ} where
  -- no entry in the ring, and none in the table
  pub step-none : (r : Ring K V) (t : Contents Node) → r.entries ≡ [] → t.nodes ≡ []
      → length r.free ≤ t.room
      → IsInStep eq hash r t
  step-none r t none bare fits = record {
    distinct = rw none (IsEntries-nil V eq);
    apart = rw none (IsEntries-nil (Entry K V) same_node);
    numbered = rw none refl;
    tied = rw (none, bare) (IsPermutation-refl []);
    count = ap length bare ∙ sym (ap length none);
    fits = omega (arith, fits, ap length none);
  }

  -- the same entries and nodes, with room for all
  pub step-same : (r s : Ring K V) (t u : Contents Node) → s.entries ≡ r.entries
      → IsPermutation t.nodes u.nodes
      → length r.entries + length s.free ≤ u.room → IsInStep eq hash r t → IsInStep eq hash s u
  step-same r s t u same same_nodes fits step = record {
    distinct = rw same step.distinct;
    apart = rw same step.apart;
    numbered = rw same step.numbered;
    tied = rw same (IsPermutation-trans _ _ _ step.tied same_nodes);
    count = length_permutation t.nodes u.nodes same_nodes ∙ step.count ∙ sym (ap length same);
    fits = omega (arith, fits, ap length same);
  }

  -- the entry h of n was added, to the ring at i and to the table under its number
  pub step-in : (r s : Ring K V) (t u : Contents Node) (n : Node) (h : Entry K V) (i : ℕ)
      → IsInStep eq hash r t → NonePasses (eq h.key) (pairs_in r.entries)
      → NonePasses (same_node n) r.entries → s.entries ≡ insert r.entries i (n, h)
      → h.number ≡ short (hash h.key) → IsPermutation (kept h.number n ∷ t.nodes) u.nodes
      → u.room ≡ t.room → length r.entries + 1 ≤ t.room → length s.free ≡ length r.free - 1
      → IsInStep eq hash s u
  step-in r s t u n h i step none fresh put number came room ready free =
      let more : length u.nodes ≡ length (kept h.number n ∷ t.nodes) = length_permutation _ _ came in
      let long : length s.entries ≡ length r.entries + 1 = ap length put
      ∙ length-inserted r.entries i (n, h) in
      record {
        distinct = subst (IsEntries eq) (sym (ap pairs_in put ∙ pairs-inserted r.entries i n h))
            (IsEntries-inserted eq laws (pairs_in r.entries) step.distinct i (pair_of h) none);
        apart = rw put (IsEntries-inserted same_node same_node_equiv r.entries step.apart i (n, h) fresh);
        numbered = rw put (insert-map (λ (e : Node × Entry K V). e.1.number) r.entries i (n, h)
            ∙ ap₂ (λ l x. insert l i x) step.numbered number
            ∙ sym (insert-map (λ (e : Node × Entry K V). short (hash e.1.key)) r.entries i (n, h)));
        tied = rw (put, insert-map (λ (e : Node × Entry K V). kept e.1.number e.0) r.entries i (n, h))
            (IsPermutation-trans _ _ _
            (IsPermutation-sym _ _ (IsPermutation-insert (numbered_nodes r.entries) i (kept h.number n)))
            (IsPermutation-trans _ _ _ (IsPermutation-cons (kept h.number n) _ _ step.tied) came));
        count = omega (arith, more, step.count, long);
        fits = omega (arith, step.fits, ready, long, free, room);
      }

  -- the entry h of n, which is at j
  module _ (r s : Ring K V) (t : Contents Node) (n : Node) (h : Entry K V) (j : ℕ)
      (step : IsInStep eq hash r t)
      (at : slice_get r.entries j ≡ Some (n, h)) where
    numbered-first : IsPermutation (numbered_nodes r.entries)
        (kept h.number n ∷ remove (numbered_nodes r.entries) j)
    numbered-first =
        let there = mapped-at (λ (e : Node × Entry K V). kept e.1.number e.0) r.entries j (n, h) at in
        IsPermutation-remove (numbered_nodes r.entries) j (kept h.number n)
        (slice_get_within (numbered_nodes r.entries) j _ there)
        (sym (get_or_from_slice_get (numbered_nodes r.entries) j _ _ there))

    once : OnceEach (kept h.number n ∷ remove (numbered_nodes r.entries) j)
    once = once-permuted _ _ numbered-first
        (subst (IsDistinct same_node) (sym (nodes-numbered r.entries)) step.apart)

    -- it was removed from the ring, and its node from the table
    pub step-out : (u : Contents Node) → s.entries ≡ remove r.entries j
        → length s.free ≡ length r.free + 1
        → IsPermutation t.nodes (kept h.number n ∷ u.nodes) → u.room ≡ t.room
        → IsInStep eq hash s u
    step-out u removed free left room =
        let as_many : length (kept h.number n ∷ u.nodes) ≡ length t.nodes = length_permutation _ _ left in
        let fewer : length s.entries + 1 ≡ length r.entries = ap (λ es. length es + 1) removed
        ∙ length-removed r.entries j (n, h) at in
        record {
          distinct = subst (IsEntries eq) (sym (ap pairs_in removed ∙ pairs-removed r.entries j))
              (IsEntries-removed eq laws (pairs_in r.entries) step.distinct j (pair_of h)
              (pair-at r.entries j n h at));
          apart = rw removed
              (IsEntries-removed same_node same_node_equiv r.entries step.apart j (n, h) at);
          numbered = rw removed (remove-map (λ (e : Node × Entry K V). e.1.number) r.entries j
              ∙ ap (λ l. remove l j) step.numbered
              ∙ sym (remove-map (λ (e : Node × Entry K V). short (hash e.1.key)) r.entries j));
          tied = rw (removed, remove-map (λ (e : Node × Entry K V). kept e.1.number e.0) r.entries j)
              (after-first (kept h.number n) (remove (numbered_nodes r.entries) j) u.nodes once
              (IsPermutation-trans _ _ _ (IsPermutation-sym _ _ numbered-first)
              (IsPermutation-trans _ _ _ step.tied left)));
          count = omega (arith, as_many, step.count, fewer);
          fits = omega (arith, step.fits, fewer, free, room);
        }

  -- it now is g, at i: it was removed and inserted again
  pub step-renewed : (r s : Ring K V) (t : Contents Node) (n : Node) (h g : Entry K V) (j i : ℕ)
      → IsInStep eq hash r t → slice_get r.entries j ≡ Some (n, h)
      → s.entries ≡ insert (remove r.entries j) i (n, g)
      → g.number ≡ h.number → eq h.key g.key ≡ true → hash g.key ≡ hash h.key
      → length s.free ≡ length r.free
      → IsInStep eq hash s t
  step-renewed r s t n h g j i step at put number key hashed free =
      let mid : Ring K V = ring (remove r.entries j) (n ∷ r.free) r.link_writes in
      let u : Contents Node = record { nodes = remove (numbered_nodes r.entries) j; room = t.room } in
      let left : IsPermutation t.nodes (kept h.number n ∷ u.nodes) =
      IsPermutation-trans _ _ _ (IsPermutation-sym _ _ step.tied) (numbered-first r mid t n h j step at) in
      let fewer : length mid.entries + 1 ≡ length r.entries = length-removed r.entries j (n, h) at in
      let others = none_equal eq laws h.key g.key (remove (pairs_in r.entries) j) key
      (none-removed eq laws (pairs_in r.entries) step.distinct j (pair_of h) (pair-at r.entries j n h at)) in
      step-in mid s u t n g i (step-out r mid t n h j step at u refl (omega arith) left refl)
      (subst (NonePasses (eq g.key)) (sym (pairs-removed r.entries j)) others)
      (none-removed same_node same_node_equiv r.entries step.apart j (n, h) at) put
      (number ∙ number-at step j n h at ∙ ap short (sym hashed))
      (rw number (IsPermutation-sym _ _ left)) refl
      (omega (arith, step.fits, fewer)) (omega (arith, free))
