use Rattle.hashlink_uses.proofs.Common.{◌≡◌, list_any, entries_of}
use Rattle.hashlink_uses.proofs.forms.has_value.Given as goal

-- no entry so far has the value
abbrev pub invariant-loop-stored : goal.invariant-loop-stored
invariant-loop-stored g l =
    list_any (λ e. g.V.PartialEq.eq e.1 l.value) (entries_of l.map)
    ≡ list_any (λ e. g.V.PartialEq.eq e.1 l.value) l.stored-iterator
