use Rattle.hashlink_map.proofs.Names.{Some, length, subst, place_number, MovesNode, around}
use Rattle.hashlink_map.proofs.AtNode.{stays-first}
use Rattle.hashlink_map.proofs.map.LinkedHashMap.move_to_front.Goals as goal

pub returns : goal.returns
returns g c =
    let m = c.self.inside.list in let new = c.move_after.new.self in
    let e = c.move_after.ensures in
    let moved = subst (MovesNode m new (place_number m.nodes (Some c.args.node))) (around (length m.nodes))
    e.moved in
    record {
      moves = rw (← c.self.view_is) moved.state;
      stays = stays-first g.met.K.Eq.laws _ _ e.sound c.args.node c.requires
          (rw c.self.view_is at moved.nodes);
      distinct = rw c.self.view_is at e.was_sound.distinct;
    }
