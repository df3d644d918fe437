-- Finding nodes by the table: a key's, and one that left the ring.
use Rattle.hashlink_core.proofs.Names
use Names.{◌≡◌, ℕ, ◌^◌, ◌<◌, Bool, true, false, cond, List, ◌∷◌, Option}
use Names.{None, Some, refl, ap, sym, subst, ◌∙◌, arith, ◌⊎◌, inl, inr, length, Bor, IsEquivalence, Shared}
use Names.{FnReturnsAt, fold, lookup, remove_entry, keys_of, option_map, is_some, IfSome, IfNone}
use Names.{IsPermutation, slice_get, Contains, NonePasses, Contains-from_lookup}
use Names.{lookup-from_Contains, place_of_its_key, slice_get_here, place_of, IsKeyTest, same_node}
use Names.{same_node_equiv, eq-same_node, Ring, Holds, pair_of, Entry, Node, Contents}
use Names.{Keeps, nodes_of, pairs_in, HoldsMatch, place_number, Tells, IsInStep, short, hash_with, mapped-at}
use Names.{from_part, element-at, at-element, lookup-map_values, node-at}
use Rattle.hashlink_core.proofs.Mapped.{place_number-mapped}
use Rattle.hashlink_core.proofs.Stepping.{pair-at, held-at, kept, listed, in-table, number-of, was-kept}
use Rattle.std.{specs.Option.{is_some, IfSome, IfNone, MatchOption}, proofs.{Common.not, Math.Path.fun_ext}}
use Rattle.std.proofs.lemmas.Map.{lookup-remove_entry}
use Rattle.hashlink_model.proofs.Splits.{Stands, splits, place_of-none}

-- the node n, whose entry had this number, was detached, which left the ring s
pub record Detached {K V : Type 0} (r : Ring K V) (n : Node) (number : ℕ) (s : Ring K V) : Type 0 where
  pub held : Holds r.entries n
  pub is : option_map (λ h. h.number) (lookup (same_node n) r.entries) ≡ Some number
  pub entries : s.entries ≡ remove_entry (same_node n) r.entries
  pub free : s.free ≡ n ∷ r.free

module _ {K V : Type 0} {eq : K → K → Bool} {hash : K → ℕ} {r : Ring K V} {t : Contents Node}
    (step : IsInStep eq hash r t) where
  -- the number of a node's entry is a short hash
  pub asked-short : (n : Node) (number : ℕ) → Holds r.entries n
      → option_map (λ h. h.number) (lookup (same_node n) r.entries) ≡ Some number → number < 2 ^ 32
  asked-short n number held is =
      let x = node-at r.entries n held in
      let own : x.0.number ≡ number = cc (sym (ap (option_map (λ h. h.number)) x.1.found) ∙ is) in
      omega (arith, number-of step n x.0 x.1.found, own)

  -- ---- n left the ring, in which its entry had this number, and is free
  module _ {n : Node} {number : ℕ} {s : Ring K V} (d : Detached r n number s) where
    -- whether a node has no entry
    abbrev IsFree : Node → Bool → Type 0
    IsFree m b = not (is_some (lookup (same_node m) s.entries)) ≡ b

    found-left : (m : Node)
        → lookup (same_node m) s.entries ≡ cond (same_node n m) None (lookup (same_node m) r.entries)
    found-left m = ap (lookup (same_node m)) d.entries
        ∙ lookup-remove_entry same_node_equiv (same_node n) (λ x y e. same_node_equiv.congr n x y e) m
        r.entries
        step.apart

    -- a node of the table is n, or has the entry that it had
    left-or : (i : ℕ) (m : Node) (there : Keeps t i m)
        → (n ≡ m) ⊎ (lookup (same_node m) s.entries ≡ Some (listed step i m there).0)
    left-or i m there =
        (elim (same_node n m) as (λ b. same_node n m ≡ b
        → (n ≡ m) ⊎ (lookup (same_node m) s.entries ≡ Some (listed step i m there).0)) [
          | true ↦ λ e. inl (eq-same_node n m e)
          | false ↦ λ e. inr (found-left m ∙ ap (λ b. cond b None (lookup (same_node m) r.entries)) e
              ∙ (listed step i m there).1)
        ]) refl

    pub left-known : (i : ℕ) (m : Node) → Keeps t i m → Holds s.entries m ⊎ Contains s.free m
    left-known i m kept = (elim (left-or i m kept) as (λ _. Holds s.entries m ⊎ Contains s.free m) [
      | inl same ↦ inr (rw d.free (0, omega arith, same))
      | inr there ↦ inl (ap is_some there)
    ])

    only : (i : ℕ) (m : Node) → Keeps t i m → IsFree m true → n ≡ m
    only i m kept answer = (elim (left-or i m kept) as (λ _. n ≡ m) [
      | inl same ↦ same
      | inr there ↦ absurd (cc (sym answer ∙ ap (λ o. not (is_some o)) there))
    ])

    pub left-told : (i : ℕ) (m : Node) → Keeps t i m → IsFree m true → i ≡ number
    left-told i m there answer =
        let old = listed step i m there in
        let at = ap (λ k. lookup (same_node k) r.entries) (only i m there answer) ∙ old.1 in
        let own : old.0.number ≡ number = cc (sym (ap (option_map (λ h. h.number)) at) ∙ d.is) in
        sym old.2 ∙ own

    -- the node that the table took out is n
    pub taken-out : (u : Contents Node) (o : Option Node)
        → IfSome o (λ m. IsPermutation t.nodes (kept number m ∷ u.nodes) × IsFree m true)
        → IfNone o ((m : Node) → Keeps t number m → IsFree m false)
        → IsPermutation t.nodes (kept number n ∷ u.nodes)
    taken-out u None some none =
        let x = node-at r.entries n d.held in
        let own : x.0.number ≡ number = cc (sym (ap (option_map (λ h. h.number)) x.1.found) ∙ d.is) in
        let there = subst (λ i. Keeps t i n) own (in-table step n x.0 x.1.found) in
        let gone = found-left n
        ∙ ap (λ b. cond b None (lookup (same_node n) r.entries)) (same_node_equiv.refl n) in
        absurd (cc (sym (ap (λ o. not (is_some o)) gone) ∙ none n there))
    taken-out u (Some m) some none =
        subst (λ m. IsPermutation t.nodes (kept number m ∷ u.nodes))
        (sym (only number m (was-kept t u number m some.0) some.1)) some.0

-- two nodes are the same exactly if their keys are equal
module _ {K V : Type 0} {eq : K → K → Bool} (laws : IsEquivalence eq) {hash : K → ℕ} {r : Ring K V}
    {t : Contents Node} (step : IsInStep eq hash r t) (m n : Node) (p q : K × V)
    (at_m : option_map pair_of (lookup (same_node m) r.entries) ≡ Some p)
    (at_n : option_map pair_of (lookup (same_node n) r.entries) ≡ Some q) where
  pub same-keyed : eq p.0 q.0 ≡ true → m ≡ n
  same-keyed equal =
      let g = from_part pair_of (lookup (same_node m) r.entries) p at_m in
      let h = from_part pair_of (lookup (same_node n) r.entries) q at_n in
      let c = Contains-from_lookup eq-same_node m g.0 r.entries g.1 in
      let d = Contains-from_lookup eq-same_node n h.0 r.entries h.1 in
      let here = at-element r.entries (m, g.0) c in
      let there = at-element r.entries (n, h.0) d in
      let i = place_of_its_key eq laws (pairs_in r.entries) c.0 (pair_of g.0) p.0 step.distinct
      (pair-at r.entries c.0 m g.0 here) (ap (λ (x : K × V). eq p.0 x.0) g.2 ∙ laws.refl p.0) in
      let j = place_of_its_key eq laws (pairs_in r.entries) d.0 (pair_of h.0) p.0 step.distinct
      (pair-at r.entries d.0 n h.0 there) (ap (λ (x : K × V). eq p.0 x.0) h.2 ∙ equal) in
      let same : c.0 ≡ d.0 = cc (sym i ∙ j) in
      let both : (m, g.0) ≡ (n, h.0) = cc (sym here ∙ ap (slice_get r.entries) same ∙ there) in
      ap (λ (x : Node × Entry K V). x.0) both

  pub same-key : m ≡ n → eq p.0 q.0 ≡ true
  same-key same =
      let moved = ap (λ k. option_map pair_of (lookup (same_node k) r.entries)) same in
      let is : p ≡ q = cc (sym at_m ∙ moved ∙ at_n) in
      ap (λ (x : K × V). eq x.0 q.0) is ∙ laws.refl q.0

-- what a call returned for a node's key
pub answered-at : {K V : Type 0} (P : K → Type 0) (o : Option (Entry K V)) (key : K) (value : V)
    → option_map pair_of o ≡ Some (key, value) → P key
    → IfSome o (λ h. P h.key)
answered-at P o key value is p =
    let x = from_part pair_of o (key, value) is in
    rw x.1 (subst P (sym (ap (λ q. q.0) x.2)) p)

-- the results of a test that distinguishes the keys equal to k from all others
pub told : {K F : Type 0} {calls : Shared F (Bor K × Unit {0}) Bool} {eq : K → K → Bool}
    (laws : IsEquivalence eq)
    {hash : K → ℕ} {held : List K} {test : F} {asked : ℕ} {k : K}
    → Tells calls eq hash held test asked k → (x : K) (b : Bool) → Contains held x
    → FnReturnsAt calls test x b
    → b ≡ eq k x
told {eq = eq} laws {held = held} {k = k} tells x b within r =
    tells.answers r.shown b (subst (Contains held) (sym r.shows) within) r.says.met
    ∙ ap (λ y. eq y k) r.shows ∙ laws.symm x k

-- the key of a node's entry is among the keys
pub key-held : {K V : Type 0} (es : List (Node × Entry K V)) (n : Node) (h : Entry K V)
    → lookup (same_node n) es ≡ Some h
    → Contains (keys_of (pairs_in es)) h.key
key-held es n h is =
    let c = Contains-from_lookup eq-same_node n h es is in
    element-at (keys_of (pairs_in es)) c.0 h.key
    (mapped-at (λ p. p.0) (pairs_in es) c.0 (pair_of h) (pair-at es c.0 n h (at-element es (n, h) c)))

-- a search of the table: the hash of the keys that pass, and what a call may return for a node's key
pub record Search {K V : Type 0} (hash : K → ℕ) (r : Ring K V) (passes : K → Bool) (i : ℕ)
    (Answers : K → Bool → Type 0) : Type 0 where
  pub hashed : (x : K) → passes x ≡ true → short (hash x) ≡ i
  pub tells : (n : Node) (h : Entry K V) → lookup (same_node n) r.entries ≡ Some h
      → (b : Bool) → Answers h.key b → b ≡ passes h.key

-- the keys that a query matches have its hash
pub query-search : {K V S H : Type 0} {r : Ring K V} (build : S → H) (write : H → List ℕ → H)
    (finish : H → ℕ) (input : K → List (List ℕ)) (matches : K → Bool) (query : List (List ℕ))
    → ((x : K) → matches x ≡ true → query ≡ input x) → (s now : S) → s ≡ now
    → (asked i : ℕ) → asked ≡ finish (fold write (build now) query) → i ≡ short asked
    → Search (hash_with build write finish input s) r matches i (λ x b. b ≡ matches x)
query-search build write finish input matches query alike s now same asked i is is_short = record {
  hashed = λ x e.
      ap (λ s. short (hash_with build write finish input s x)) same
      ∙ ap (λ l. short (finish (fold write (build now) l))) (sym (alike x e)) ∙ ap short (sym is)
      ∙ sym is_short;
  tells = λ n h here b is. is;
}

module _ {K V : Type 0} {eq : K → K → Bool} (laws : IsEquivalence eq) {hash : K → ℕ} {r : Ring K V}
    {t : Contents Node} (step : IsInStep eq hash r t) where
  -- each node of the table is in the ring
  pub listed-holds : (number : ℕ) (n : Node) → Keeps t number n → Holds r.entries n
  listed-holds number n there = ap is_some (listed step number n there).1

  -- so its entry has that number
  pub listed-number : (number : ℕ) (n : Node) → Keeps t number n
      → option_map (λ h. h.number) (lookup (same_node n) r.entries) ≡ Some number
  listed-number number n there =
      let l = listed step number n there in
      ap (option_map (λ h. h.number)) l.1 ∙ ap Some l.2

  module _ {passes : K → Bool} {i : ℕ} {Answers : K → Bool → Type 0}
      (search : Search hash r passes i Answers) where
    answered : (n : Node) (h : Entry K V) (b : Bool) → lookup (same_node n) r.entries ≡ Some h
        → IfSome (lookup (same_node n) r.entries) (λ g. Answers g.key b)
        → passes h.key ≡ b
    answered n h b here answer = sym (search.tells n h here b (rw here at answer))

    -- a node whose key passes by the test is in the table under the short hash
    pub told-hash : (number : ℕ) (n : Node) → Keeps t number n
        → IfSome (lookup (same_node n) r.entries) (λ h. Answers h.key true)
        → number ≡ i
    told-hash number n there answer =
        let l = listed step number n there in
        sym l.2 ∙ number-of step n l.0 l.1 ∙ search.hashed l.0.key (answered n l.0 true l.1 answer)

    -- if by the test no node with the short hash has a key that passes, no key passes
    none-told : ((n : Node) → Keeps t i n
        → IfSome (lookup (same_node n) r.entries) (λ h. Answers h.key false))
        → NonePasses passes (pairs_in r.entries) ⊎ Stands passes (pairs_in r.entries)
        → place_of passes (pairs_in r.entries) ≡ None
    none-told none (inl absent) = place_of-none passes (pairs_in r.entries) absent
    none-told none (inr s) =
        let x = held-at r.entries (length s.0) s.1
        (ap (λ l. slice_get l (length s.0)) s.3.is ∙ slice_get_here s.0 s.1 s.2) in
        let n = x.0.0 in
        let h = x.0.1 in
        let here = lookup-from_Contains same_node_equiv n h r.entries step.apart
        (element-at r.entries (length s.0) x.0 x.1) in
        let met : passes h.key ≡ true = ap (λ p. passes p.0) x.2 ∙ s.3.passes in
        let number = number-of step n h here ∙ search.hashed h.key met in
        let there = subst (λ k. Keeps t k n) number (in-table step n h here) in
        absurd (cc (sym (answered n h false here (none n there)) ∙ met))

    -- the result of a search of the table
    pub found-by_table : IsKeyTest eq passes → {X : Type 0} (node : X → Node) (o : Option X)
        → IfSome o (λ f. Keeps t i (node f)
        × IfSome (lookup (same_node (node f)) r.entries) (λ h. Answers h.key true))
        → IfNone o ((n : Node) → Keeps t i n
        → IfSome (lookup (same_node n) r.entries) (λ h. Answers h.key false))
        → MatchOption o (place_of passes (pairs_in r.entries) ≡ None)
        (λ f. HoldsMatch passes (nodes_of r.entries) (node f))
    found-by_table alike node None some none = none-told none (splits passes (pairs_in r.entries))
    found-by_table alike node (Some f) some none =
        let n = node f in
        let x = node-at r.entries n (listed-holds i n some.0) in
        let k = x.0.key in
        let met : passes k ≡ true = answered n x.0 true x.1.found some.1 in
        let is : passes ≡ eq k = fun_ext (λ y. alike k y met) in
        record {
          within = ap is_some (lookup-map_values pair_of (same_node n) r.entries
              ∙ ap (option_map pair_of) x.1.found);
          place = ap (λ test. place_of test (pairs_in r.entries)) is
              ∙ place_of_its_key eq laws (pairs_in r.entries) (place_number r.entries (Some n)) (pair_of x.0)
              k step.distinct (pair-at r.entries (place_number r.entries (Some n)) n x.0 x.1.at) (laws.refl k)
              ∙ ap Some (sym (place_number-mapped pair_of r.entries (Some n)));
        }
