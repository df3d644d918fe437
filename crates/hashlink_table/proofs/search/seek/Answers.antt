use Rattle.hashlink_table.proofs.Names.{ℕ, ◌+◌, ◌-◌, ◌%◌, ◌/◌, ◌<◌, ◌≤◌, ◌≡◌, count_by, eqb, false}
use Rattle.hashlink_table.proofs.Names.{length}
use Rattle.hashlink_table.proofs.Names.{Some, refl, sym, ap, ◌∙◌, arith, eq-eqb, eqb-true}
use Rattle.hashlink_table.proofs.Names.{get_or}
use Rattle.hashlink_table.proofs.Names.{false≢true, bucket_in, own_at, guest_of, nodes_in}
use Rattle.hashlink_table.proofs.Names.{lanes_of, may_be, tag_of, mask_bit_of, mask_at, bit_at, no_guests}
use Rattle.hashlink_table.proofs.Names.{Head}
use Rattle.hashlink_table.proofs.Linking.{first_read, guest_kept, own_kept, positive_by_power}
use Rattle.hashlink_table.proofs.{Groups.{from_base, grouped_in, to_base}, Nodes.contains-at}
use Rattle.hashlink_table.proofs.Views.{looked_at, none_left, tag_agrees}
use Rattle.hashlink_table.proofs.search.seek.Given as given
use Rattle.hashlink_table.proofs.search.seek.Goals.{After-base_of-base, In_default}
use Rattle.hashlink_table.proofs.search.seek.Goals as goal

-- the group of the hash, and the nodes at which the search looks, there and among the guests
module _ (g : given.Over) (c : After-base_of-base g) where
  abbrev m : ℕ
  m = length c.args.slots.now.cells

  base : c.base_of-base.result ≡ c.args.hash % m - c.args.hash % m % 16
  base = c.base_of-base.ensures ∙ ap (λ k. c.args.hash % k - c.args.hash % k % 16) c.len.ensures

  index : c.base_of-base.result / 16 ≡ c.args.hash % m / 16
  index = omega (arith, base)

  group : c.args.hash % m / 16 < length c.args.slots.now.heads
  group =
      omega (arith, positive_by_power m c.requires.masked, c.requires.whole, c.requires.arranged.paired)

  looked : count_by (may_be c.args.hash) (lanes_of c.args.slots.now.cells c.base_of-base.result)
      + count_by (λ d. eqb (bucket_in m (guest_of d)) (c.args.hash % m)) c.args.slots.now.cells
      ≤ count_by (λ k. eqb (k.hash % m) (c.args.hash % m)) (nodes_in c.args.slots.now.cells)
  looked =
      looked_at c.args.slots.now.cells c.args.hash c.base_of-base.result c.requires.masked c.requires.whole
      c.requires.arranged.in_place base

-- a node of the group with the tag of the hash is of its bucket
pub seek_slots-requires-clause-callable : goal.seek_slots-requires-clause-callable
seek_slots-requires-clause-callable g c at kept from to is same =
    let slots = c.args.slots.now.cells in
    let m = length slots in
    let b = c.args.hash % m in
    let first = base g (goal.at.seek_slots-requires-clause-callable g c).After-base_of-base in
    let own = tag_agrees m b c.args.hash at (own_at slots at) (positive_by_power m c.requires.masked)
    c.requires.whole refl (c.requires.arranged.in_place at)
    (grouped_in b at (omega (arith, first, from)) (omega (arith, first, to)))
    (rw is (eq-eqb (tag_of kept.hash) (tag_of c.args.hash) same)) in
    c.requires.callable kept.hash kept.node (contains-at slots at kept (own_kept slots at kept is))
    (eqb-true (kept.hash % m) b (rw is at own))

pub seek_slots-requires-clause-telling : goal.seek_slots-requires-clause-telling
seek_slots-requires-clause-telling g c at kept is =
    c.requires.telling kept.hash kept.node
    (contains-at c.args.slots.now.cells at kept (own_kept c.args.slots.now.cells at kept is))

pub seek_guests-requires-clause-first : goal.seek_guests-requires-clause-first
seek_guests-requires-clause-first g c =
    let p = (goal.at.seek_guests-requires-clause-first g c).After-base_of-base in
    ap (λ (h : Head). h.first) c.head-head.ensures
    ∙ ap (λ i. (get_or c.args.slots.now.heads i no_guests).first) (index g p)
    ∙ first_read c.args.slots.now.heads (c.args.hash % length c.args.slots.now.cells / 16) no_guests (group g
    p)

pub seek_guests-requires-clause-callable : goal.seek_guests-requires-clause-callable
seek_guests-requires-clause-callable g c at node is =
    c.requires.callable c.args.hash node
    (contains-at c.args.slots.now.cells at _ (guest_kept c.args.slots.now.cells at _ is)) refl

-- if no slot of the group has the node, it is a guest
none_in_slots : (g : given.Over) (c : In_default g) (at : ℕ) (node : g.row.N.Denot)
    → own_at c.args.slots.now.cells at ≡ Some (record { hash = c.args.hash; node = node })
    → g.F.Fn.post c.args.is_match (node, tt) false
none_in_slots g c at node kept =
    let b = c.args.hash % length c.args.slots.now.cells in
    let first = c.base_of-base.ensures ∙ ap (λ k. c.args.hash % k - c.args.hash % k % 16) c.len.ensures in
    let same = c.requires.arranged.in_place at _ kept in
    c.in_default.ensures.none at node (omega (arith, first, from_base b at same))
    (omega (arith, first, to_base b at same)) kept

-- no guest of the group has the hash
pub returns-then-not-may_have-clause-none : goal.returns-then-not-may_have-clause-none
returns-then-not-may_have-clause-none g c =
    none_left c.args.slots.now.cells c.args.hash _
    (none_in_slots g (goal.at.returns-then-not-may_have-clause-none g c).In_default)
    (λ at node is.
    let p = (goal.at.returns-then-not-may_have-clause-none g c).After-base_of-base in
    let heads = c.args.slots.now.heads in let b = c.args.hash % length c.args.slots.now.cells / 16 in
    let read : c.head-head.result.mask ≡ mask_at heads b
    = ap (λ (h : Head). h.mask) c.head-head.ensures
    ∙ ap (λ i. (get_or heads i no_guests).mask) (index g p) in
    let bit : bit_at c.head-head.result.mask (mask_bit_of c.args.hash) ≡ 1
    = ap (λ n. bit_at n (mask_bit_of c.args.hash)) read ∙ c.requires.arranged.covered at _ is in
    absurd (false≢true (sym c.if-not-may_have.true ∙ c.may_have.ensures.1 bit)))

pub returns-in_err-node-clause-none : goal.returns-in_err-node-clause-none
returns-in_err-node-clause-none g c =
    rw c.from_residual.ensures
    (none_left c.args.slots.now.cells c.args.hash _
    (none_in_slots g (goal.at.returns-in_err-node-clause-none g c).In_default) c.in_err-node.ensures.none)

pub returns-in-Some-clause-cost : goal.returns-in-Some-clause-cost
returns-in-Some-clause-cost g c =
    omega (arith, looked g (goal.at.returns-in-Some-clause-cost g c).After-base_of-base)

pub returns-then-not-may_have-clause-cost : goal.returns-then-not-may_have-clause-cost
returns-then-not-may_have-clause-cost g c =
    omega (arith, looked g (goal.at.returns-then-not-may_have-clause-cost g c).After-base_of-base)

pub returns-clause-cost : goal.returns-clause-cost
returns-clause-cost g c =
    omega (arith, looked g (goal.at.returns-clause-cost g c).After-base_of-base)

pub returns-in_err-node-clause-cost : goal.returns-in_err-node-clause-cost
returns-in_err-node-clause-cost g c =
    omega (arith, looked g (goal.at.returns-in_err-node-clause-cost g c).After-base_of-base)
