use Rattle.hashlink_table.proofs.Names.{◌≡◌, ◌/◌, ◌%◌, length, Some, false, next_at, guest_at}
use Rattle.hashlink_table.proofs.Walks.{IsSearch, steps_left}
use Rattle.hashlink_table.proofs.search.seek_guests.Given as goal

-- if no guest left is sought, none is; and there is a step for each guest of the bucket
abbrev pub invariant-loop-at : goal.invariant-loop-at
invariant-loop-at g l =
    IsSearch
    l.slots.cells
    (length l.slots.cells)
    (l.hash % length l.slots.cells)
    (l.hash % length l.slots.cells / 16)
    l.at
    (λ at. (node : g.row.N.Denot) → guest_at l.slots.cells at ≡ Some (record { hash = l.hash; node = node })
    → goal.F-post g l.is_match node false)
    l.initial.steps
    l.steps

abbrev pub decreases-loop-at : goal.decreases-loop-at
decreases-loop-at g l = steps_left (next_at l.slots.cells) (length l.slots.cells) l.at
