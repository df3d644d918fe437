use Rattle.hashlink_map.proofs.extend.LinkedHashMapExtendTuple2RefRef.TheImpl.Goals as goal

pub extend-asks : goal.extend-asks
extend-asks g c = λ it is. let may = c.requires it is in (may.0, may.1)
