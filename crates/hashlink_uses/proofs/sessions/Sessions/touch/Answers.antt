use Rattle.std.{proofs.Common.{All, nat_eq, is_some, ◌≤◌}, specs.List.Sorted.IsNonDecreasingBy}
use Rattle.hashlink.proofs.CallerLemmas.{ordered-put_last, written_last-number}
use Rattle.hashlink_uses.proofs.Common.{ap, state_of, subst, sym}
use Rattle.hashlink_uses.proofs.sessions.Sessions.touch.Goals as goal

pub invariant_of-self-2 : goal.invariant_of-self-2
invariant_of-self-2 c =
    subst (IsNonDecreasingBy (λ e. e.1))
    (sym (written_last-number c.args.session (state_of c.self.inside.last_uses) _ c.args.now
    c.in-Some.ensures.distinct (ap is_some (sym c.in-Some.ensures.value))
    (c.to_back.follows.holds c.args.now)))
    (ordered-put_last (λ e. e.1) (nat_eq c.args.session) _ (c.args.session, c.args.now) c.self.invariant
    (subst (All (λ e. e.1 ≤ c.args.now)) (sym c.self.view_is) c.requires)).0

pub returns-clause-used : goal.returns-clause-used
returns-clause-used c =
    rw (← c.self.view_is)
    (λ used. written_last-number c.args.session (state_of c.self.inside.last_uses) _ c.args.now
    c.in-Some.ensures.distinct (ap is_some (sym c.in-Some.ensures.value))
    (c.to_back.follows.holds c.args.now))
