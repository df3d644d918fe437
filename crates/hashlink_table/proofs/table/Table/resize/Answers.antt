-- The nodes are the same, in new slots.
use Rattle.hashlink_table.proofs.Names.{ap, arith, Contents, len_of, subst, IsPermutation, nodes_in}
use Rattle.hashlink_table.proofs.Sound.{sound-resized}
use Rattle.hashlink_table.proofs.table.Table.resize.Goals as goal

pub moved-requires-clause-roomy : goal.moved-requires-clause-roomy
moved-requires-clause-roomy g c =
    let len = ap (λ (u : Contents g.row.N.Denot). len_of u) c.self.view_is in
    omega (arith, c.requires.held, c.requires.headed, len)

pub invariant_of-self-2 : goal.invariant_of-self-2
invariant_of-self-2 g c =
    let moved = c.in_ok-moved.ensures in
    let len = ap (λ (u : Contents g.row.N.Denot). len_of u) c.self.view_is in
    sound-resized _ _ c.args.room c.self.invariant
    (rw moved.len record {
      headed = c.requires.headed;
      bounded = c.requires.bounded;
      none = λ e. absurd (omega (arith, c.requires.some, e));
      small = c.if-count-gt-MAX_SLOTS.false;
      masked = λ _. c.requires.power;
      whole = c.requires.whole;
    })
    (omega (arith, c.requires.held, c.self.invariant.counted, len)) moved.arranged moved.nodes

pub returns-clause-nodes : goal.returns-clause-nodes
returns-clause-nodes g c =
    let cells = c.in_ok-moved.moved.cells in
    subst (λ (u : Contents g.row.N.Denot). IsPermutation u.nodes (nodes_in cells)) c.self.view_is
    c.in_ok-moved.ensures.nodes
