use Rattle.hashlink_map.proofs.AtNode.{pushes, pushed-holds, pushed-place}
use Rattle.hashlink_map.proofs.map.LinkedHashMap.push_back.Goals as goal

pub returns : goal.returns
returns g c =
    let e = c.insert_before.ensures in let r = c.insert_before.result in
    let laws = g.met.K.Eq.laws in let m = c.self.inside.list in
    let new = c.insert_before.new.self in let k = c.args.key in
    let v = c.args.value in
    let absent = rw (← c.self.view_is) at c.requires.absent in
    rw (← c.self.view_is) (record {
      inserts = pushes laws m new k v absent r e.added e.handed_back e.refused e.no_spare;
      distinct = e.was_sound.distinct;
      holds = pushed-holds laws m new k v absent e.sound r e.added;
      place = pushed-place laws m new k v absent e.sound r e.added;
    })
