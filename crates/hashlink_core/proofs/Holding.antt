-- The keys that a node holds: by the entry that it has, and still after a move.
use Rattle.hashlink_core.proofs.Names.{◌≡◌, ℕ, Bool, true, List, ◌∷◌, length, Some, refl, ap, sym, subst, ◌∙◌}
use Rattle.hashlink_core.proofs.Names.{arith, is_some, insert, remove, slice_get, unwrap_or, Contains}
use Rattle.hashlink_core.proofs.Names.{IsEquivalence, lookup_from_place, lookup-from_Contains}
use Rattle.hashlink_core.proofs.Names.{Node, same_node, same_node_equiv, place_left, place_of_its_key, Keyed}
use Rattle.hashlink_core.proofs.Names.{entries_of, HoldsKey, HoldsMatch, EqualsKeyAt, PassesAt, IsKeyed}
use Rattle.hashlink_core.proofs.Names.{place_number, MovesNode, moved_at-is, passes-at, mapped-at, node-at}
use Rattle.std.proofs.lemmas.List.Sorted.{Contains-permutation, IsPermutation-insert}
use Rattle.hashlink_core.specs.Places.{Holds}

-- an entry at p, with its node n
module _ {K V S : Type 0} {eq : K → K → Bool} (laws : IsEquivalence eq) (m : Keyed K V S)
    (sound : IsKeyed eq m) (n : Node) (p : ℕ) (e : K × V) (at : slice_get m.nodes p ≡ Some (n, e)) where
  pub number-at : place_number m.nodes (Some n) ≡ p
  number-at =
      ap (λ o. unwrap_or o (length m.nodes))
      (place_of_its_key same_node same_node_equiv m.nodes p (n, e) n sound.apart at (same_node_equiv.refl n))

  pub holds-at : Holds m.nodes n
  holds-at = ap is_some (lookup_from_place same_node_equiv m.nodes p n e sound.apart at)

  pub holds_key-at : (k : K) → eq k e.0 ≡ true → HoldsKey eq m.nodes k n
  holds_key-at k same =
      let stands : slice_get (entries_of m) p ≡ Some e = mapped-at (λ x. x.1) m.nodes p (n, e) at in
      record {
        within = holds-at;
        place = place_of_its_key eq laws (entries_of m) p e k sound.distinct stands same
            ∙ ap Some (sym number-at);
      }

-- the pair of a node of the list
pub at-node : {K V S : Type 0} (m : Keyed K V S) (n : Node) (held : Holds m.nodes n)
    → slice_get (entries_of m) (place_number m.nodes (Some n)) ≡ Some (node-at m.nodes n held).0
at-node m n held =
    let x = node-at m.nodes n held in
    mapped-at (λ e. e.1) m.nodes (place_number m.nodes (Some n)) (n, x.0) x.1.at

-- the key of a node whose key is the first that passes
pub holds-passes : {K V S : Type 0} (test : K → Bool) (m : Keyed K V S) (n : Node) → HoldsMatch test m.nodes n
    → PassesAt test (entries_of m) (place_number m.nodes (Some n))
holds-passes test m n h =
    let x = node-at m.nodes n h.within in
    let j = place_number m.nodes (Some n) in
    rw (at-node m n h.within) (passes-at test (entries_of m) j x.0 h.place (at-node m n h.within))

-- a node holds each key that equals its own, and no other
module _ {K V S : Type 0} (eq : K → K → Bool) (m : Keyed K V S) (n : Node) (k : K) where
  pub equals-stored : (held : Holds m.nodes n)
      → EqualsKeyAt eq (entries_of m) (place_number m.nodes (Some n)) k
      → eq k (node-at m.nodes n held).0.0 ≡ true
  equals-stored held same = rw (at-node m n held) at same

  pub equal-holds : IsEquivalence eq → IsKeyed eq m → Holds m.nodes n
      → EqualsKeyAt eq (entries_of m) (place_number m.nodes (Some n)) k
      → HoldsKey eq m.nodes k n
  equal-holds laws sound held same =
      let x = node-at m.nodes n held in
      holds_key-at laws m sound n (place_number m.nodes (Some n)) x.0 x.1.at k (equals-stored held same)

  pub holds-equal : HoldsKey eq m.nodes k n → EqualsKeyAt eq (entries_of m) (place_number m.nodes (Some n)) k
  holds-equal h = holds-passes (eq k) m n h

-- a node that moves
pub moved-holds_key : {K V S : Type 0} (eq : K → K → Bool) (laws : IsEquivalence eq) (old new : Keyed K V S)
    (k : K) (n : Node) → HoldsKey eq old.nodes k n → (b : ℕ)
    → MovesNode old new (place_number old.nodes (Some n)) b → IsKeyed eq new → HoldsKey eq new.nodes k n
moved-holds_key eq laws old new k n found b s sound =
    let j = place_number old.nodes (Some n) in
    let x = node-at old.nodes n found.within in
    let rest : List (Node × _) = remove old.nodes j in
    let among = Contains-permutation ((n, x.0) ∷ rest) (insert rest (place_left j b) (n, x.0)) (n, x.0)
    (IsPermutation-insert rest (place_left j b) (n, x.0)) (0, omega arith, refl) in
    let here = lookup-from_Contains same_node_equiv n x.0 new.nodes sound.apart
    (subst (λ ns. Contains ns (n, x.0)) (sym (s.nodes ∙ moved_at-is old.nodes j b (n, x.0) x.1.at)) among) in
    let y = node-at new.nodes n (ap is_some here) in
    let same : x.0 ≡ y.0 = cc (sym here ∙ y.1.found) in
    holds_key-at laws new sound n (place_number new.nodes (Some n)) y.0 y.1.at k
    (subst (λ e. eq k e.0 ≡ true) same
    (passes-at (eq k) (entries_of old) j x.0 found.place (at-node old n found.within)))
