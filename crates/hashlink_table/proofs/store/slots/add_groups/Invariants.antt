use Rattle.hashlink_table.proofs.Names.{◌≡◌, ◌+◌, ◌++◌, replicate, vec_capacity, vec_len, empty_record}
use Rattle.hashlink_table.proofs.store.slots.add_groups.Given as goal

-- so many groups were pushed
abbrev pub invariant-loop-added : goal.invariant-loop-added
invariant-loop-added l = record {
  items : l.groups.items ≡ l.initial.groups.items ++ replicate l.added empty_record;
  len : vec_len l.groups ≡ vec_len l.initial.groups + l.added;
  roomy : vec_capacity l.groups ≡ vec_capacity l.initial.groups;
}
