use Rattle.hashlink_table.proofs.Names.{◌≡◌, ℕ, ◌-◌, ◌%◌, ◌<◌, ◌≤◌, IsSome, kept_at}
use Rattle.hashlink_table.proofs.store.insertion.first_free.Given as goal

-- each slot before this group has a node
abbrev pub invariant-loop-base : goal.invariant-loop-base
invariant-loop-base g l = record {
  begins : l.base % 16 ≡ 0;
  after : l.from ≤ l.base;
  taken : (at : ℕ) → l.from ≤ at → at < l.base → IsSome (kept_at l.slots.cells at);
}

abbrev pub decreases-loop-base : goal.decreases-loop-base
decreases-loop-base g l = l.to - l.base
