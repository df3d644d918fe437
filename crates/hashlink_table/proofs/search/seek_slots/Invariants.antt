use Rattle.hashlink_table.proofs.Names.{◌≡◌, ℕ, ◌+◌, ◌-◌, ◌<◌, ◌≤◌, false, Some, drop, count_by, own_at}
use Rattle.hashlink_table.proofs.{Names.{lanes_of, may_be}, Masks.IsLeft}
use Rattle.hashlink_table.proofs.search.seek_slots.Given as goal

-- no cell before this one has the node, and the bits left are those of the cells from this one on. There was
-- a step for each cell before it that may have had the node
abbrev pub invariant-loop-hits : goal.invariant-loop-hits
invariant-loop-hits g l = record {
  left : IsLeft l.slots.cells l.base (may_be l.hash) l.at l.hits;
  seen : (i : ℕ) (node : g.row.N.Denot) → l.base ≤ i → i < l.at
      → own_at l.slots.cells i ≡ Some (record { hash = l.hash; node = node })
      → goal.F-post g l.is_match node false;
  cost : l.steps + count_by (may_be l.hash) (drop (l.at - l.base) (lanes_of l.slots.cells l.base))
      ≤ l.initial.steps + count_by (may_be l.hash) (lanes_of l.slots.cells l.base);
  goes_on : l.initial.steps ≤ l.steps;
}

abbrev pub decreases-loop-hits : goal.decreases-loop-hits
decreases-loop-hits g l = l.base + 16 - l.at
