use Rattle.std.{proofs.Common.{ap, sym, ◌∙◌, ◌++◌, length}, specs.Map.lookup}
use Rattle.hashlink_model.specs.{Entries.put, Walk.last_of}
use Rattle.hashlink_model.proofs.Weighted.{weighted_entries, weighted_total}
use Rattle.hashlink_weighted.{specs.Evicted.not_fitting, proofs.Evicting.evicted_before}
use Rattle.hashlink_weighted.proofs.Inserted.{last_put}
use Rattle.hashlink_weighted.proofs.laws.what_an_accepted_insert_leaves.Goals as goal

pub returns-clause-within : goal.returns-clause-within
returns-clause-within g c = λ eq old new k v weight answer s. (
  weighted_total eq old new k v weight (lookup (eq k) old.map.entries) s.inserts,
  s.inserts.budget,
)

pub returns-clause-last : goal.returns-clause-last
returns-clause-last g c = λ eq old new k v weight answer s.
    ap last_of (weighted_entries eq old new k v weight (lookup (eq k) old.map.entries) s.inserts)
    ∙ last_put eq old.map.entries old.budget k v weight s.inserts.not_too_heavy

pub returns-clause-evicted : goal.returns-clause-evicted
returns-clause-evicted g c = λ eq old new k v weight answer s.
    let all = put eq old.map.entries k (v, weight) (length old.map.entries) in
    sym (ap (λ es. not_fitting all old.budget ++ es)
    (weighted_entries eq old new k v weight (lookup (eq k) old.map.entries) s.inserts)
    ∙ evicted_before all old.budget)
