use Rattle.hashlink.proofs.CallerLemmas.{PopsBelow-all, PopsBelow-order, PopsBelow-pop, PopsBelow-start}
use Rattle.hashlink_uses.proofs.Common.{None, Some, entries_of}
use Rattle.hashlink_uses.proofs.sessions.Sessions.expire.Goals as goal

pub loop-last_use-init : goal.loop-last_use-init
loop-last_use-init c =
    rw (← c.self.view_is)
    (PopsBelow-start (λ e. e.1) c.args.before (entries_of c.self.inside.last_uses), c.self.invariant)

pub loop-last_use-preserved : goal.loop-last_use-preserved
loop-last_use-preserved c = (
  PopsBelow-pop (λ e. e.1) c.args.before c.args.self.now _ _ _ c.pop_front.result
      c.loop-last_use.invariant.0 c.in-Some.ensures.found c.if-last_use-before.false
      c.pop_front.ensures.entries,
  c.loop-last_use.invariant.1,
)

pub invariant_of-self : goal.invariant_of-self
invariant_of-self c =
    let (pops, up) = c.loop-last_use.invariant in PopsBelow-order (λ e. e.1) c.args.before _ _ pops up

pub returns-then-last_use-before : goal.returns-then-last_use-before
returns-then-last_use-before c =
    let (pops, up) = c.loop-last_use.invariant in
    PopsBelow-all (λ e. e.1) c.args.before _ _ pops up (Some _) c.in-Some.ensures.found
    c.if-last_use-before.true

pub returns : goal.returns
returns c =
    let (pops, up) = c.loop-last_use.invariant in
    PopsBelow-all (λ e. e.1) c.args.before _ _ pops up None c.in_default.ensures.found tt
