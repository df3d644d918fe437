use Rattle.std.proofs.Common.{refl}
use Rattle.hashlink_map.specs.Entry.{occupied_place, occupied_state}
use Rattle.hashlink_run.proofs.Said.{said_by}
use Rattle.hashlink_core.proofs.Steps.{pair_from_parts}
use Rattle.hashlink_run.proofs.entries.said_of_entry.Goals as goal

pub says-said-requires : goal.says-said-requires
says-said-requires g c =
    let there =
    pair_from_parts (occupied_state c.args.entry).map.entries (occupied_place c.args.entry) c.key.result.now
    c.get.result.now c.key.ensures c.get.ensures in
    c.requires.says (c.key.result.now, c.get.result.now) there c.key.result c.get.result refl refl

pub returns-clause-said : goal.returns-clause-said
returns-clause-said g c =
    rw (pair_from_parts _ _ _ _ c.key.ensures c.get.ensures)
    (said_by c.key.result c.get.result (record { met = c.says-said.ensures }))
