use Rattle.hashlink_core.proofs.Names.{◌-◌, length, CalledAtPair, TakesPair, place_number}
use Rattle.hashlink_map.proofs.Retaining.{Retaining}
use Rattle.hashlink_map.proofs.map.LinkedHashMap.retain_from.Given as goal

abbrev pub invariant-loop-place : goal.invariant-loop-place
invariant-loop-place g l =
    Retaining g.K.PartialEq.eq (CalledAtPair g.F.FnMut) (TakesPair g.F.FnMut) l.fn.keep l.fn.self l.keep
    l.list l.place

abbrev pub decreases-loop-place : goal.decreases-loop-place
decreases-loop-place g l = length l.list.nodes - place_number l.list.nodes l.place
