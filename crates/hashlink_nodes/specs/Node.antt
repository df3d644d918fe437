-- When two nodes are the same. The parts of a node stay hidden: callers distinguish nodes only by
-- `same_node`.
use Rattle.std.specs.{Prelude.{◌≡◌, Bool, true, false, ◌&&◌, nat_eq}, Cmp.{IsEquivalence, nat_eq_equiv}}
use Rattle.std.proofs.Common.{refl, sym, ap, ◌∙◌, eqb-true}
use denote.RawPtr.{Ptr, block_ptr, null_ptr}
use Rattle.hashlink_nodes.specs.declared.node.Node.{Node}

-- whether two pointers are the same
abbrev pub same_pointer : Ptr → Ptr → Bool
same_pointer (block_ptr b o) (block_ptr c p) = nat_eq b c && nat_eq o p
same_pointer (block_ptr b o) null_ptr = false
same_pointer null_ptr (block_ptr c p) = false
same_pointer null_ptr null_ptr = true

-- whether two nodes are the same
pub same_node : Node → Node → Bool
same_node a b = same_pointer a.at b.at

and_both : (x y : Bool) → x && y ≡ true → (x ≡ true) × (y ≡ true)
and_both true true e = (refl, refl)
and_both true false e = (refl, e)
and_both false y e = (e, absurd (cc e))

same_pointer-eq : (p q : Ptr) → same_pointer p q ≡ true → p ≡ q
same_pointer-eq (block_ptr b o) (block_ptr c p) e =
    let parts = and_both (nat_eq b c) (nat_eq o p) e in
    λ i. block_ptr (eqb-true b c parts.0 i) (eqb-true o p parts.1 i)
same_pointer-eq (block_ptr b o) null_ptr e = cc
same_pointer-eq null_ptr (block_ptr c p) e = cc
same_pointer-eq null_ptr null_ptr e = refl

same_pointer-refl : (p : Ptr) → same_pointer p p ≡ true
same_pointer-refl (block_ptr b o) = rw (nat_eq_equiv.refl b, nat_eq_equiv.refl o)
same_pointer-refl null_ptr = refl

-- nodes that are the same are equal
pub eq-same_node : (a b : Node) → same_node a b ≡ true → a ≡ b
unfolding same_node
eq-same_node a b same = ap (λ p. record { at = p }) (same_pointer-eq a.at b.at same)

pub same_node-refl : (a : Node) → same_node a a ≡ true
unfolding same_node
same_node-refl a = same_pointer-refl a.at

same_node-symm : (a b : Node) → same_node a b ≡ same_node b a
same_node-symm a b = (elim (same_node b a) as (λ (y : Bool). same_node b a ≡ y → same_node a b ≡ y) [
  | true ↦ λ e. let same : b ≡ a = eq-same_node b a e in ap (λ n. same_node a n) same ∙ same_node-refl a
  | false ↦ λ e. (elim (same_node a b) as (λ (y : Bool). same_node a b ≡ y → y ≡ false) [
    | true ↦ λ f. let same : a ≡ b = eq-same_node a b f in sym (same_node-refl b)
        ∙ ap (λ n. same_node b n) (sym same) ∙ e
    | false ↦ λ f. refl
  ]) refl
]) refl

pub same_node_equiv : IsEquivalence same_node
same_node_equiv = record {
  refl = same_node-refl;
  symm = same_node-symm;
  congr = λ a b c e. ap (λ n. same_node n c) (eq-same_node a b e);
}
