use Rattle.hashlink_map.proofs.{Names.◌∙◌, AtNode.{stored-there, stored-absent}}
use Rattle.hashlink_map.proofs.entry.Entry.key.Goals as goal

pub returns-in-Occupied : goal.returns-in-Occupied
returns-in-Occupied g c =
    let o = c.in-Occupied.entry in
    rw c.in-Occupied.is (stored-there g.K.PartialEq.eq _ o.key _ o.stands.place _ c.key.ensures)

pub returns-in-Vacant : goal.returns-in-Vacant
returns-in-Vacant g c =
    let e = c.in-Vacant.entry in
    rw c.in-Vacant.is (c.key-in-Vacant.ensures ∙ stored-absent g.K.PartialEq.eq _ e.key e.absent)
