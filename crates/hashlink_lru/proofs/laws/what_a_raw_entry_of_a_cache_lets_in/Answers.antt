use Rattle.std.proofs.Common.{◌+◌, ◌≤◌, Bool, length, Option, None, Some, MatchOption, ap, arith}
use Rattle.std.specs.Map.{lookup}
use Rattle.hashlink_model.specs.{Cache.front_evicted, MapState.{MapState, AddsEntry, PutsEntry}}
use Rattle.hashlink_model.proofs.{Afterwards.length-put_there, Caches.front_evicted-at_most}
use Rattle.hashlink_lru.proofs.laws.what_a_raw_entry_of_a_cache_lets_in.Goals as goal

-- a put lengthens a map by at most one entry
grown : {K V S : Type 0} (eq : K → K → Bool) (old new : MapState K V S) (k : K) (v : V) (o : Option V)
    → MatchOption o (AddsEntry eq old new k v (length old.entries))
    (PutsEntry eq old new k v (length old.entries))
    → length new.entries ≤ length old.entries + 1
grown eq old new k v None a = omega (arith, ap length a.adds.entries, a.adds.more)
grown eq old new k v (Some w) p =
    omega (
      arith,
      ap length p.puts.entries,
      length-put_there eq old.entries k v (length old.entries) w p.old_value,
    )

pub returns-clause-put : goal.returns-clause-put
returns-clause-put g c eq old roomy evicts new n k v puts within =
    let few : length (front_evicted old.map.entries old.cap) ≤ old.cap + n
    = front_evicted-at_most old.map.entries old.cap (old.cap + n) (omega arith) (omega (arith, within)) in
    omega (arith, ap length evicts.entries, few, grown eq roomy new k v (lookup (eq k) roomy.entries) puts)
