use Rattle.hashlink_map.proofs.{Names.{refl, still_standing}, Walking.{lent-taken, last-taken}}
use Rattle.hashlink_map.proofs.iter_mut.IterMut+K+V+S+Node+L.next_value_back.Goals as goal

pub invariant_of-self-lent : goal.invariant_of-self-lent
invariant_of-self-lent g c w =
    (still_standing w c.args.self.now.map.now.nodes _ c.in_ok-node.ensures.stands, tt)

pub returns : goal.returns
returns g c =
    let o = c.args.self.now in let m = o.map.now in
    let n = c.in_ok-node.node in let takes = c.in_ok-node.ensures.takes in
    let lent = lent-taken m o.places c.take_last.new.self n c.value_at_mut.ensures.value _ _ _ takes
    (last-taken m o.places n _ _ o.stands takes) in
    ((refl, (λ w. ((refl, lent.0 w), lent.1)), tt), record { lends = tt; value = lent.2; left = takes.2 })
