use Rattle.hashlink_nodes.proofs.Names.{refl, ◌∙◌, arith}
use Rattle.hashlink_nodes.proofs.{Calls.guard_stays, Calls.into_before, Calls.ready_new, Opening.seal}
use Rattle.hashlink_nodes.proofs.nodes.Nodes.push_new.Goals as goal

-- ---- the new node is linked into the ring
pub attach_before-requires : goal.attach_before-requires
attach_before-requires g c =
    (into_before (ready_new c.self.invariant c.self.view_is c.in-Ok.ensures.made c.requires.none
    (omega (arith, c.if-self-ge-MAX_NODES.false)) c.in-Ok-make.ensures.made c.fill.ensures) c.args.place
    c.requires.place c.unwrap_or.ensures).fits

pub invariant_of-self-in-Ok-make : goal.invariant_of-self-in-Ok-make
invariant_of-self-in-Ok-make g c =
    let i = into_before (ready_new c.self.invariant c.self.view_is c.in-Ok.ensures.made c.requires.none
    (omega (arith, c.if-self-ge-MAX_NODES.false)) c.in-Ok-make.ensures.made c.fill.ensures) c.args.place
    c.requires.place c.unwrap_or.ensures in
    seal (i.leaves refl c.attach_before.ensures).sound

pub returns-in-Ok-make : goal.returns-in-Ok-make
returns-in-Ok-make g c =
    let i = into_before (ready_new c.self.invariant c.self.view_is c.in-Ok.ensures.made c.requires.none
    (omega (arith, c.if-self-ge-MAX_NODES.false)) c.in-Ok-make.ensures.made c.fill.ensures) c.args.place
    c.requires.place c.unwrap_or.ensures in
    let l = i.leaves refl c.attach_before.ensures in record {
      entries = l.entries;
      free = l.free ∙ c.requires.none;
      apart = l.apart;
      link_writes = l.link_writes;
      handed_back = tt;
      unchanged = tt;
    }

-- ---- the allocation fails, and the guard stays
pub invariant_of-self-in-Err-make : goal.invariant_of-self-in-Err-make
invariant_of-self-in-Err-make g c =
    seal (guard_stays c.self.invariant c.self.view_is c.in-Ok.ensures.made
    c.in-Err-make.ensures.unchanged).sound

pub returns-in-Err-make-clause-unchanged : goal.returns-in-Err-make-clause-unchanged
returns-in-Err-make-clause-unchanged g c =
    (guard_stays c.self.invariant c.self.view_is c.in-Ok.ensures.made c.in-Err-make.ensures.unchanged).view
