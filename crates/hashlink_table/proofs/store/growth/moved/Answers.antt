-- Each node moves in its turn, and there is a free slot for it.
use Rattle.hashlink_table.proofs.Names.{◌≡◌, ℕ, ◌+◌, ◌<◌, ◌≤◌, ◌∷◌, ◌++◌, length, [], ap, refl, ◌∙◌, arith}
use Rattle.hashlink_table.proofs.Names.{length-replicate, IsPermutation-refl, length_permutation, length_push}
use Rattle.hashlink_table.proofs.Names.{nodes_in, take, bare_cell, is_some, Cell, count_trailing_zeros}
use Rattle.hashlink_table.proofs.Names.{Bool, Hashed, Some, false, kept_at}
use Rattle.hashlink_table.proofs.Nodes.{next_some, nodes_in-bare, nodes_in-part, nodes_in-passed, put_on}
use Rattle.hashlink_table.proofs.{Masks.{hit, no_hit, IsHit, IsLeft}, Sound.arranged-bare}
use Rattle.hashlink_table.proofs.store.growth.moved.Given as given
use Rattle.hashlink_table.proofs.store.growth.moved.Goals.{After-taken-left}
use Rattle.hashlink_table.proofs.store.growth.moved.Goals as goal

pub loop-base-init : goal.loop-base-init
loop-base-init g c = record {
  arranged = rw c.in_ok-moved.ensures (arranged-bare c.args.count _ refl);
  long = rw c.in_ok-moved.ensures (length-replicate c.args.count bare_cell);
  nodes = rw (c.in_ok-moved.ensures, nodes_in-bare {N = g.row.N.Denot} c.args.count) (IsPermutation-refl []);
  whole = refl;
}

pub taken-left-requires-clause-within : goal.taken-left-requires-clause-within
taken-left-requires-clause-within g c =
    omega (arith, c.loop-base-test.true, c.len.ensures, c.requires.grouped, c.loop-base.invariant.whole)

-- the slots of a group, and the first of those left that has a node
module _ (g : given.Over) (c : After-taken-left g) where
  room : c.loop-base.base + 16 ≤ length c.args.slots.now.cells
  room = omega (arith, c.loop-base-test.true, c.len.ensures, c.requires.grouped, c.loop-base.invariant.whole)

  -- the nodes of the slots up to another one, if those in between have none
  passed : (at to : ℕ) → at ≤ to → to ≤ c.loop-base.base + 16
      → ((i : ℕ) → at ≤ i → i < to → is_some (kept_at c.args.slots.now.cells i) ≡ false)
      → nodes_in (take to c.args.slots.now.cells) ≡ nodes_in (take at c.args.slots.now.cells)
  passed at to low high none =
      nodes_in-passed c.args.slots.now.cells at to low (omega (arith, high, room)) none

  abbrev has_node : Cell g.row.N.Denot → Bool
  has_node d = is_some d.kept

  module _ (at left : ℕ) (l : IsLeft c.args.slots.now.cells c.loop-base.base has_node at left)
      (some : left ≡ 0 → ⊥) where
    abbrev to : ℕ
    to = at + count_trailing_zeros 64 left

    found : IsHit c.args.slots.now.cells c.loop-base.base has_node at left
    found = hit room l some

    more : (k : Hashed g.row.N.Denot) → kept_at c.args.slots.now.cells to ≡ Some k
        → nodes_in (take (to + 1) c.args.slots.now.cells)
        ≡ nodes_in (take at c.args.slots.now.cells) ++ k ∷ []
    more k is =
        next_some c.args.slots.now.cells to (omega (arith, found.to, room)) _ refl k is
        ∙ ap (λ ks. ks ++ k ∷ [])
        (passed at to (omega arith) (omega (arith, found.to)) found.before)

pub overflow_add-at : goal.overflow_add-at
overflow_add-at g c =
    let p = (goal.at.overflow_add-at g c).After-taken-left in
    let f = found g p _ _ c.loop-left.invariant.left c.loop-left-test.true in
    record { fits = omega (arith, f.to, c.taken-left.ensures.small) }

pub known-kept-requires : goal.known-kept-requires
known-kept-requires g c =
    let p = (goal.at.known-kept-requires g c).After-taken-left in
    (found g p _ _ c.loop-left.invariant.left c.loop-left-test.true).here

pub put-requires-clause-roomy : goal.put-requires-clause-roomy
put-requires-clause-roomy g c =
    let p = (goal.at.put-requires-clause-roomy g c).After-taken-left in
    let v = c.loop-left.invariant in
    let kept = c.known-kept.result in
    let next = more g p _ _ v.left c.loop-left-test.true kept c.known-kept.ensures in
    omega (
      arith,
      nodes_in-part c.args.slots.now.cells (c.loop-left.at + count_trailing_zeros 64 c.loop-left.left + 1),
      ap length next,
      length_push (nodes_in (take c.loop-left.at c.args.slots.now.cells)) kept,
      length_permutation _ _ v.nodes,
      v.long,
      c.requires.roomy,
    )

pub loop-left-preserved : goal.loop-left-preserved
loop-left-preserved g c =
    let p = (goal.at.loop-left-preserved g c).After-taken-left in
    let v = c.loop-left.invariant in
    record {
      left = (found g p _ _ v.left c.loop-left-test.true).rest;
      arranged = c.put.ensures.arranged;
      long = c.put.ensures.len ∙ v.long;
      nodes = put_on _ _ _ _ c.known-kept.result
          (more g p _ _ v.left c.loop-left-test.true c.known-kept.result c.known-kept.ensures) v.nodes
          c.put.ensures.nodes;
    }

pub loop-base-preserved : goal.loop-base-preserved
loop-base-preserved g c =
    let p = (goal.at.loop-base-preserved g c).After-taken-left in
    let v = c.loop-left.invariant in
    let all = passed g p c.loop-left.at (c.loop-base.base + 16) v.left.high (omega arith)
    (no_hit (room g p) v.left c.loop-left-test.false) in
    record {
      arranged = v.arranged;
      long = v.long;
      nodes = rw all v.nodes;
      whole = omega (arith, c.loop-base.invariant.whole);
    }
