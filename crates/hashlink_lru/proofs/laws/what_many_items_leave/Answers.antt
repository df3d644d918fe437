use Rattle.hashlink_lru.proofs.Extending.{extended_entries, extended_capacity, extended_stopped}
use Rattle.hashlink_lru.proofs.Extending.{extended_within, extended_fits}
use Rattle.hashlink_lru.proofs.laws.what_many_items_leave.Goals as goal

pub returns : goal.returns
returns g c =
    search (extended_entries, extended_capacity, extended_stopped, extended_within, extended_fits)
