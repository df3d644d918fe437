use Rattle.hashlink_table.proofs.Names.{inl, inr, arith, cases_lt, IsSome, kept_at}
use Rattle.hashlink_table.proofs.Moving.{not_full}
use Rattle.hashlink_table.proofs.store.insertion.lodging.Goals as goal

pub overflow_add-near : goal.overflow_add-near
overflow_add-near g c = record { fits = omega (arith, c.requires.small, c.requires.within) }

-- not each slot has a node
pub unreachable-requires : goal.unreachable-requires
unreachable-requires g c =
    not_full c.args.slots.now.cells c.requires.roomy (λ at low. elim (cases_lt at c.group_of-start.result)
    as (λ _. IsSome (kept_at c.args.slots.now.cells at)) [
      | inl early ↦ c.in-None.ensures.none at (omega arith) early
      | inr late ↦ c.in_default-first_free.ensures.none at late (omega (arith, low, c.len-count.ensures))
    ])
