use Rattle.hashlink_uses.proofs.Common.{rules, occupied_place}
use Rattle.hashlink_uses.proofs.maps.cursors.put_after.Goals as goal

pub returns-in-Occupied-clause-inserts : goal.returns-in-Occupied-clause-inserts
returns-in-Occupied-clause-inserts g c =
    let done = c.insert_after.ensures.inserts in
    (occupied_place c.in-Occupied.entry, search rules, search rules)
