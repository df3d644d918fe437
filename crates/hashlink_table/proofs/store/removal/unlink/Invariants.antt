use Rattle.hashlink_table.proofs.{Names.{◌≢◌, ◌<◌, length, next_at}, Walks.{IsWalk, rank, steps_left}}
use Rattle.hashlink_table.proofs.store.removal.unlink.Given as goal

-- the guest was not passed
abbrev pub invariant-loop-slots : goal.invariant-loop-slots
invariant-loop-slots g l = record {
  walk : IsWalk l.slots.cells (length l.slots.cells) l.group l.at;
  to_come : rank walk l.guest < walk.from;
  apart : l.at ≢ l.guest;
  within : l.at < length l.slots.cells;
}

abbrev pub decreases-loop-slots : goal.decreases-loop-slots
decreases-loop-slots g l = steps_left (next_at l.slots.cells) (length l.slots.cells) l.at
