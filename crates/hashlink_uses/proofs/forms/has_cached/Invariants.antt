use Rattle.hashlink.specs.Cached.{entries_of}
use Rattle.hashlink_uses.proofs.Common.{◌≡◌, list_any}
use Rattle.hashlink_uses.proofs.forms.has_cached.Given as goal

-- no entry so far has the value
abbrev pub invariant-loop-stored : goal.invariant-loop-stored
invariant-loop-stored g l =
    list_any (λ e. g.V.PartialEq.eq e.1 l.value) (entries_of l.cache)
    ≡ list_any (λ e. g.V.PartialEq.eq e.1 l.value) l.stored-iterator
