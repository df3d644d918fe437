use Rattle.std.proofs.Common.{◌≡◌, ◌-◌, length}
use Rattle.hashlink_core.specs.Keyed.{state_of, entries_of}
use Rattle.hashlink_model.specs.Entries.{IsEntries}
use Rattle.hashlink_weighted.proofs.{Dropping.HasDropped, Evicting.Evicting}
use Rattle.hashlink_weighted.proofs.cache.eviction.evict_until_fitting.Given as goal

abbrev pub invariant-loop-others : goal.invariant-loop-others
invariant-loop-others g l = record {
  dropped : HasDropped (state_of l.fn.map) (state_of l.map) l.others l.fn.weight l.fn.budget;
  evicting : Evicting g.F.FnMut l.fn.on_evicted (entries_of l.fn.map) l.fn.budget l.on_evicted
      (entries_of l.map);
  distinct : IsEntries g.K.PartialEq.eq (entries_of l.map);
  room : l.room ≡ l.fn.budget - l.fn.weight;
}

abbrev pub decreases-loop-others : goal.decreases-loop-others
decreases-loop-others g l = length (entries_of l.map)
