use Rattle.hashlink.proofs.Indexing.{state_written_there}
use Rattle.hashlink_uses.proofs.maps.indexed.set_indexed.Goals as goal

pub returns : goal.returns
returns g c =
    state_written_there g.K.PartialEq.eq c.args.map.now c.args.key.now c.args.value c.requires
