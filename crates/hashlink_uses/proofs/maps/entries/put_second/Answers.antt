use Rattle.hashlink_uses.proofs.Common.{rules}
use Rattle.hashlink_uses.proofs.maps.entries.put_second.Goals as goal

pub returns : goal.returns
returns g c =
    let done = c.insert_after.ensures.inserts in
    search rules
