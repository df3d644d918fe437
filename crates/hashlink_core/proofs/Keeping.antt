-- A place stays on its entry if a pair is inserted, an entry moves or a value is written.
use Rattle.hashlink_core.proofs.Names
use Names.{◌≡◌, ℕ, suc, Bool, true, false, zero, List, [], ◌∷◌, length, Option, None, Some, refl, sym, ap}
use Names.{subst, ◌∙◌, cond, arith, slice_get, is_some, unwrap_or, option_map, IsEquivalence, lookup}
use Names.{remove_entry, length-values_of, same_node, same_node_equiv, eq-same_node, IsEntries, lookup-moved}
use Names.{moved_at-place, place_of_its_key, Keyed, entries_of, IsKeyed, pair_with_value, place_number}
use Names.{renewed_at, AddsNode, MovesNode, WritesNode, GrowsRoom, KeepsKeys, KeepsPlace}
use Rattle.hashlink_core.{proofs.Names.{lookup-map_values, node-at}, specs.Places.{Node, Holds, IsPlace}}
use Rattle.hashlink_core.proofs.{AtKeyNode.is_some-map, Holding.{at-node, holds_key-at}, Mapped.mapped}
use Rattle.std.proofs.lemmas.Map.{none_passes_from_lookup, lookup-remove_entry, lookup-insert}
use Rattle.std.proofs.lemmas.Option.{slice_get_past}

-- there is no entry at the guard
pub at-guard : {K V S : Type 0} (m : Keyed K V S) → slice_get (entries_of m) (place_number m.nodes None)
    ≡ None
at-guard m = slice_get_past (entries_of m) (length m.nodes) (omega (arith, length-values_of m.nodes))

module _ {K V S : Type 0} (old new : Keyed K V S) where
  pub keys-held : KeepsKeys old new → (m : Node) → Holds old.nodes m → Holds new.nodes m
  keys-held kept m held = sym (is_some-map (λ e. e.0) (lookup (same_node m) new.nodes))
      ∙ ap is_some (kept m held) ∙ is_some-map (λ e. e.0) (lookup (same_node m) old.nodes) ∙ held

  -- so the place stays on its entry
  pub keeps-place : {eq : K → K → Bool} → IsEquivalence eq → IsKeyed eq new → KeepsKeys old new
      → (p : Option Node)
      → IsPlace old.nodes p
      → KeepsPlace eq old new p
  keeps-place laws sound kept None within = record {
    within = tt;
    number = rw (at-guard old) (sym (length-values_of new.nodes));
  }
  keeps-place {eq = eq} laws sound kept (Some n) held =
      let x = node-at old.nodes n held in
      let found : option_map (λ e. e.0) (lookup (same_node n) new.nodes) ≡ Some x.0.0
      = kept n held ∙ ap (option_map (λ e. e.0)) x.1.found in
      let still = keys-held kept n held in
      let y = node-at new.nodes n still in
      let here : option_map (λ e. e.0) (lookup (same_node n) new.nodes) ≡ Some y.0.0
      = ap (option_map (λ e. e.0)) y.1.found in
      let same : x.0.0 ≡ y.0.0 = cc in
      let key = holds_key-at laws new sound n (place_number new.nodes (Some n)) y.0 y.1.at x.0.0
      (subst (λ k. eq x.0.0 k ≡ true) same (laws.refl x.0.0)) in
      record {
        within = still;
        number = rw (at-node old n held) (sym (ap (λ o. unwrap_or o (length (entries_of new))) key.place));
      }

  -- ---- each step keeps the key of each node

  pub keys-added : {b : ℕ} {n : Node} {k : K} {v : V} → AddsNode old new b n k v → KeepsKeys old new
  keys-added {b} {n} {k} {v} s m held =
      rw (
        s.nodes,
        lookup-insert same_node_equiv n (k, v) m old.nodes b
            (none_passes_from_lookup (same_node n) old.nodes s.fresh),
      )
      ((elim (same_node n m) as (λ c. same_node n m ≡ c
      → option_map (λ e. e.0) (cond c (Some (k, v)) (lookup (same_node m) old.nodes))
      ≡ option_map (λ e. e.0) (lookup (same_node m) old.nodes)) [
        | true ↦ λ is.
            let same = ap (λ i. lookup (same_node i) old.nodes) (eq-same_node n m is) in
            absurd (cc (sym s.fresh ∙ same ∙ (node-at old.nodes m held).1.found))
        | false ↦ λ is. refl
      ]) refl)

  pub keys-moved : IsEntries same_node old.nodes → {b : ℕ} (n : Node) → Holds old.nodes n
      → MovesNode old new (place_number old.nodes (Some n)) b
      → KeepsKeys old new
  keys-moved apart {b} n held s m _ =
      let x = node-at old.nodes n held in
      let j = place_number old.nodes (Some n) in
      let there = place_of_its_key same_node same_node_equiv old.nodes j (n, x.0) n apart x.1.at
      (same_node_equiv.refl n) in
      ap (option_map (λ e. e.0))
      (ap (lookup (same_node m)) (s.nodes ∙ moved_at-place same_node old.nodes n j there b)
      ∙ lookup-moved same_node same_node_equiv m old.nodes n b apart)

  pub keys-written : {j : ℕ} {v : V} → WritesNode old new j v → KeepsKeys old new
  keys-written {j} {v} s m _ =
      sym (lookup-map_values (λ (e : K × V). e.0) (same_node m) new.nodes)
      ∙ ap (lookup (same_node m)) (ap (mapped (λ e. e.0)) s.nodes ∙ same old.nodes j)
      ∙ lookup-map_values (λ (e : K × V). e.0) (same_node m) old.nodes
    where
      same : (es : List (Node × (K × V))) (i : ℕ)
          → mapped (λ (e : K × V). e.0) (renewed_at (pair_with_value v) es i) ≡ mapped (λ e. e.0) es
      same [] i = refl
      same (e ∷ es) zero = refl
      same (e ∷ es) (suc i) = ap (λ r. (e.0, e.1.0) ∷ r) (same es i)

  pub keys-grown : {i : ℕ} → GrowsRoom i old new → KeepsKeys old new
  keys-grown s m _ = ap (λ l. option_map (λ e. e.0) (lookup (same_node m) l.nodes)) s.rest

  pub keys-place : KeepsKeys old new → (p : Option Node) → IsPlace old.nodes p → IsPlace new.nodes p
  keys-place kept None within = tt
  keys-place kept (Some m) within = keys-held kept m within

-- two steps in sequence
pub keys_twice : {K V S : Type 0} (a b c : Keyed K V S) → KeepsKeys a b → KeepsKeys b c → KeepsKeys a c
keys_twice a b c s t m h = t m (keys-held a b s m h) ∙ s m h

-- ---- a place other than the node's is also a place of the list without the node

pub left-place : {X : Type 0} (es : List (Node × X)) → IsEntries same_node es → (n : Node) (p : Option Node)
    → (p ≡ Some n → ⊥) → IsPlace es p → IsPlace (remove_entry (same_node n) es) p
left-place es apart n None other within = tt
left-place es apart n (Some m) other within =
    rw (lookup-remove_entry same_node_equiv (same_node n) (λ x y t. same_node_equiv.congr n x y t) m es apart)
    ((elim (same_node n m) as (λ c. same_node n m ≡ c
    → is_some (cond c None (lookup (same_node m) es)) ≡ true) [
      | true ↦ λ is. absurd (other (ap Some (sym (eq-same_node n m is))))
      | false ↦ λ is. within
    ]) refl)
