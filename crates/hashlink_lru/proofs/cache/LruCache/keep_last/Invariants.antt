use Rattle.std.proofs.Common.{◌≡◌, ◌-◌, ◌≤◌, length, drop}
use Rattle.hashlink_model.specs.{Entries.IsEntries, Steps.KeepsOnly}
use Rattle.hashlink_core.specs.Keyed.{state_of, entries_of}
use Rattle.hashlink_lru.proofs.cache.LruCache.keep_last.Given as goal

abbrev pub invariant-loop : goal.invariant-loop
invariant-loop g l = KeepsOnly (state_of l.fn.self.map) (state_of l.self.map)
    (drop (l.counter - l.fn.count) (entries_of l.fn.self.map))
    × IsEntries g.K.PartialEq.eq (entries_of l.self.map)
    × (l.end ≡ length (entries_of l.fn.self.map)) × (l.fn.count ≤ l.counter)
    × (l.counter - l.fn.count ≤ l.end - l.fn.count) × (l.self.capacity ≡ l.fn.self.capacity)
