use Rattle.hashlink_table.proofs.Names.{◌≡◌, ◌+◌, ◌-◌, ◌%◌, length, take, nodes_in, IsArranged, IsPermutation}
use Rattle.hashlink_table.proofs.Names.{is_some, Cell}
use Rattle.hashlink_table.proofs.Masks.{IsLeft}
use Rattle.hashlink_table.proofs.store.growth.moved.Given as goal

-- the nodes of the groups so far are in the new slots
abbrev pub invariant-loop-base : goal.invariant-loop-base
invariant-loop-base g l = record {
  arranged : IsArranged l.moved.cells l.moved.heads;
  long : length l.moved.cells ≡ l.fn.count;
  nodes : IsPermutation (nodes_in (take l.base l.slots.cells)) (nodes_in l.moved.cells);
  whole : l.base % 16 ≡ 0;
}

abbrev pub decreases-loop-base : goal.decreases-loop-base
decreases-loop-base g l = length l.slots.cells - l.base

-- so are those of the slots so far, and the bits left are those of the slots with nodes from here on
abbrev pub invariant-loop-left : goal.invariant-loop-left
invariant-loop-left g l = record {
  left : IsLeft l.slots.cells l.base (λ (c : Cell _). is_some c.kept) l.at l.left;
  arranged : IsArranged l.moved.cells l.moved.heads;
  long : length l.moved.cells ≡ l.fn.count;
  nodes : IsPermutation (nodes_in (take l.at l.slots.cells)) (nodes_in l.moved.cells);
}

abbrev pub decreases-loop-left : goal.decreases-loop-left
decreases-loop-left g l = l.base + 16 - l.at
