use Rattle.std.proofs.Common.{length}
use Rattle.std.specs.List.Sorted.{IsNonDecreasingBy}
use Rattle.hashlink.proofs.CallerLemmas.{PopsBelow}
use Rattle.hashlink_uses.proofs.Common.{entries_of}
use Rattle.hashlink_uses.proofs.sessions.Sessions.expire.Given as goal

-- only sessions that were last used before the time have left
abbrev pub invariant-loop-last_use : goal.invariant-loop-last_use
invariant-loop-last_use l =
    PopsBelow (λ e. e.1) l.before l.fn.self (entries_of l.self-inside.last_uses)
    × IsNonDecreasingBy (λ e. e.1) l.fn.self

-- each turn removes a session
abbrev pub decreases-loop-last_use : goal.decreases-loop-last_use
decreases-loop-last_use l = length (entries_of l.self-inside.last_uses)
