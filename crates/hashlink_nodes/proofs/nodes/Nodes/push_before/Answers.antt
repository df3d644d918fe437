use Rattle.hashlink_nodes.proofs.{Names.{refl, arith}, Calls.{ready_spare, into_before}, Opening.seal}
use Rattle.hashlink_nodes.proofs.nodes.Nodes.push_before.Goals as goal

pub attach_before-requires : goal.attach_before-requires
attach_before-requires g c =
    (into_before (ready_spare c.self.invariant c.self.view_is c.unwrap-guard.ensures
    (omega (arith, c.if-self-eq0.false)) c.next-first_spare.ensures c.fill.ensures) c.args.place
    c.requires.place c.unwrap_or.ensures).fits

pub invariant_of-self : goal.invariant_of-self
invariant_of-self g c =
    let i = into_before (ready_spare c.self.invariant c.self.view_is c.unwrap-guard.ensures
    (omega (arith, c.if-self-eq0.false)) c.next-first_spare.ensures c.fill.ensures) c.args.place
    c.requires.place c.unwrap_or.ensures in
    seal (i.leaves c.unwrap-guard.ensures c.attach_before.ensures).sound

pub returns : goal.returns
returns g c =
    let i = into_before (ready_spare c.self.invariant c.self.view_is c.unwrap-guard.ensures
    (omega (arith, c.if-self-eq0.false)) c.next-first_spare.ensures c.fill.ensures) c.args.place
    c.requires.place c.unwrap_or.ensures in
    let l = i.leaves c.unwrap-guard.ensures c.attach_before.ensures in record {
      entries = l.entries;
      free = l.free;
      apart = l.apart;
      link_writes = l.link_writes;
      handed_back = tt;
      unchanged = tt;
      succeeds = λ _. refl;
    }
