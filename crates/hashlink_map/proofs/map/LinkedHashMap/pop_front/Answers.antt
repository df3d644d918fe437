use Rattle.hashlink_map.proofs.Names.{None, Some}
use Rattle.hashlink_map.proofs.Taking.{pops-first, pops-none, popped_front}
use Rattle.hashlink_map.proofs.map.LinkedHashMap.pop_front.Goals as goal

pub returns-in_err-node : goal.returns-in_err-node
returns-in_err-node g c =
    let m = c.self.inside.list in let e = c.in_err-node.ensures in
    rw (c.from_residual.ensures, ← c.self.view_is) (popped_front m m g.met.K.Eq.laws e.sound e.sound None
    (pops-none m m e.none).0)

pub returns : goal.returns
returns g c =
    let m = c.self.inside.list in let e = c.remove.ensures in
    rw (← c.self.view_is) (popped_front m c.remove.new.self g.met.K.Eq.laws e.was_sound e.sound
    (Some c.remove.result) (pops-first m c.remove.new.self c.in_ok-node.node c.remove.result e.pair e.removed
    c.in_ok-node.ensures.place))
