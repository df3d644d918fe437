-- The ring after a node's value was replaced by one that was written through a `&mut`.
use Rattle.hashlink_nodes.proofs.Names.{◌≡◌, Some, ap, sym, subst, ◌∙◌, option_map, option_map_or, set_value}
use Rattle.hashlink_nodes.proofs.Names.{lookup, Node, Inside, Ring, same_node, state_of, pool_with, IsSound}
use Rattle.hashlink_nodes.proofs.Names.{ring_of, Entry, Holds, pair_of, ring, with_value, entry_in, refl}
use Rattle.hashlink_nodes.{specs.NodesLends.with_value_at, proofs.StateLemmas.{pair_at, pair_anew, paired}}
use Rattle.hashlink_nodes.proofs.{Opening.{Leaves, node_in}, Calls.renewed}

pub lent : {K V : Type 0} {n : Inside K V} {v : Ring K V} → IsSound n → ring_of n ≡ v → (m : Node)
    → Holds v.entries m → (p : K × V) → option_map pair_of ((state_of n.pool).held m) ≡ Some p → (w : V)
    → Leaves (state_of (pool_with n.pool m (p.0, w))) n.guard n.first_spare n.len n.spare
    (with_value_at v m w)
lent {K} {V} {n} {v} sound view m there p is w =
    let at = node_in sound view m there in let bs = n.pool.arena.blocks in
    let change = λ (h : Entry K V). with_value h w in
    let found = pair_at bs m p (paired (entry_in (lookup (same_node m) bs)) ∙ is) in
    subst
    (λ es. Leaves (state_of (pool_with n.pool m (p.0, w))) n.guard n.first_spare n.len n.spare
    (ring es v.free v.link_writes))
    (sym (ap (λ o. option_map_or (λ h. set_value (same_node m) v.entries (change h)) o v.entries)
    at.cut.looked))
    (renewed at change (pair_anew bs n.pool.writes.count m p found (p.0, w) change refl))
