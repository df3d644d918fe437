use Rattle.hashlink_table.proofs.Names.{◌∷◌, ◌≡◌, ℕ, ap, arith, length_permutation, subst, IsPermutation}
use Rattle.hashlink_table.proofs.Names.{Contents, nodes_in}
use Rattle.hashlink_table.proofs.{Linking.{own_kept}, Nodes.contains-at, Sound.sound-take, Storing.own_hash}
use Rattle.hashlink_table.proofs.table.Table.remove_at.Given as given
use Rattle.hashlink_table.proofs.table.Table.remove_at.Goals.{After-take}
use Rattle.hashlink_table.proofs.table.Table.remove_at.Goals as goal

pub is_match-requires : goal.is_match-requires
is_match-requires g c =
    let own = own_hash _ _ c.in-Some-own_node.ensures in
    c.requires.callable own.0 c.in-Some-own_node.node
    (rw (← c.self.view_is) (contains-at c.self.inside.slots.cells c.in-Some.at _
    (own_kept c.self.inside.slots.cells c.in-Some.at _ own.1)))

-- the node that the slot has is removed, and its hash is the one that was given
gone : (g : given.Over) (c : After-take g)
    → IsPermutation (nodes_in c.self.inside.slots.cells)
    (record { hash = c.args.hash; node = c.in-Some-own_node.node } ∷ nodes_in c.take.new.slots.cells)
gone g c =
    let cells = c.self.inside.slots.cells in
    let own = own_hash _ _ c.in-Some-own_node.ensures in
    let kept = own_kept cells c.in-Some.at _ own.1 in
    let is : own.0 ≡ c.args.hash = c.requires.telling own.0 c.in-Some-own_node.node
    (rw (← c.self.view_is) (contains-at cells c.in-Some.at _ kept)) c.if-is_match.ensures in
    subst (λ (h : ℕ). IsPermutation (nodes_in cells)
    (record { hash = h; node = c.in-Some-own_node.node } ∷ nodes_in c.take.new.slots.cells)) is
    (rw kept at c.take.ensures.nodes)

pub overflow_sub-self : goal.overflow_sub-self
overflow_sub-self g c = omega (arith, c.self.invariant.counted, length_permutation _ _ (gone g c))

pub invariant_of-self : goal.invariant_of-self
invariant_of-self g c =
    sound-take c.take.new.slots.cells c.take.new.slots.heads _ c.self.invariant c.take.ensures.len
    c.take.ensures.arranged (gone g (goal.at.invariant_of-self g c).After-take)

pub returns-then-is_match : goal.returns-then-is_match
returns-then-is_match g c = record {
  removed = (
    subst (λ (u : Contents g.row.N.Denot). IsPermutation u.nodes
        (record { hash = c.args.hash; node = c.in-Some-own_node.node } ∷ nodes_in c.take.new.slots.cells))
        c.self.view_is
        (gone g (goal.at.returns-then-is_match g c).After-take),
    c.if-is_match.ensures,
  );
  none = tt;
  unchanged = tt;
  room = ap (λ (u : Contents g.row.N.Denot). u.room) c.self.view_is;
}

pub remove-requires-clause-callable : goal.remove-requires-clause-callable
remove-requires-clause-callable g c h node there _ = c.requires.callable h node there

pub remove_elsewhere-requires-clause-callable : goal.remove_elsewhere-requires-clause-callable
remove_elsewhere-requires-clause-callable g c h node there _ = c.requires.callable h node there
