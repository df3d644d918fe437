use Rattle.std.proofs.Common.{map, rules}
use Rattle.hashlink_nodes.proofs.{Names.{ap, arith, ◌∙◌, sym, pair_of}, Opening.{known, seal}}
use Rattle.hashlink_nodes.proofs.Chains.{all_entries, all_taken, are_len, are_path, guard_has, no_entries}
use Rattle.hashlink_nodes.proofs.nodes.Nodes.take_entries.Goals as goal

pub returns-then-self-eq0-clause-pairs : goal.returns-then-self-eq0-clause-pairs
returns-then-self-eq0-clause-pairs g c =
    c.new.ensures
    ∙ ap (map (λ e. pair_of e.1)) (sym (no_entries c.self.invariant c.self.view_is c.if-self-eq0.true))

pub returns-then-self-eq0-clause-entries : goal.returns-then-self-eq0-clause-entries
returns-then-self-eq0-clause-entries g c = no_entries c.self.invariant c.self.view_is c.if-self-eq0.true

pub part-chain-requires : goal.part-chain-requires
part-chain-requires g c κs within = (
  search rules,
  (
    search rules,
    (
      are_path c.self.invariant c.self.view_is c.unwrap-guard.ensures c.next-first.ensures
          c.prev-last.ensures,
      are_len c.self.invariant c.self.view_is c.unwrap-guard.ensures c.next-first.ensures,
    ),
  ),
)

pub store_next-requires : goal.store_next-requires
store_next-requires g c =
    guard_has c.self.invariant c.self.view_is c.unwrap-guard.ensures c.next-first.ensures
    c.part-chain.ensures.left

pub store_prev-requires : goal.store_prev-requires
store_prev-requires g c =
    c.store_next.ensures.there c.unwrap-guard.result
    ∙ guard_has c.self.invariant c.self.view_is c.unwrap-guard.ensures c.next-first.ensures
    c.part-chain.ensures.left

pub invariant_of-self : goal.invariant_of-self
invariant_of-self g c =
    seal (all_taken c.self.invariant c.self.view_is c.unwrap-guard.ensures c.next-first.ensures
    c.part-chain.ensures.left c.store_next.ensures.stored c.store_prev.ensures.stored).sound

pub returns-clause-pairs : goal.returns-clause-pairs
returns-clause-pairs g c =
    c.part-chain.ensures.pairs
    ∙ ap (map (λ e. pair_of e.1))
    (all_entries c.self.invariant c.self.view_is c.unwrap-guard.ensures c.next-first.ensures)

pub returns-clause-entries : goal.returns-clause-entries
returns-clause-entries g c =
    (all_taken c.self.invariant c.self.view_is c.unwrap-guard.ensures c.next-first.ensures
    c.part-chain.ensures.left c.store_next.ensures.stored c.store_prev.ensures.stored).entries

pub returns-clause-free : goal.returns-clause-free
returns-clause-free g c =
    (all_taken c.self.invariant c.self.view_is c.unwrap-guard.ensures c.next-first.ensures
    c.part-chain.ensures.left c.store_next.ensures.stored c.store_prev.ensures.stored).free

pub returns-clause-link_writes : goal.returns-clause-link_writes
returns-clause-link_writes g c =
    let taken = all_taken c.self.invariant c.self.view_is c.unwrap-guard.ensures c.next-first.ensures
    c.part-chain.ensures.left c.store_next.ensures.stored c.store_prev.ensures.stored in
    omega (arith, taken.link_writes, (known c.self.invariant c.self.view_is).is_len)
