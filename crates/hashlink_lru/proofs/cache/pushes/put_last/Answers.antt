use Rattle.std.proofs.Common.{rules}
use Rattle.hashlink_core.specs.Keyed.{state_of}
use Rattle.hashlink_map.specs.Entry.{occupied_place}
use Rattle.hashlink_lru.proofs.Pushing.{put_at}
use Rattle.hashlink_lru.proofs.cache.pushes.put_last.Goals as goal

pub returns-in-Occupied-clause-inserts : goal.returns-in-Occupied-clause-inserts
returns-in-Occupied-clause-inserts g c =
    put_at g.K.PartialEq.eq (state_of c.args.map.now) _ c.args.key (occupied_place c.in-Occupied.entry)
    (search rules) c.args.value c.insert-old.result (search rules)
