use Rattle.hashlink_uses.proofs.Common.{◌≡◌, list_any, elements_of}
use Rattle.hashlink_uses.proofs.forms.has_element.Given as goal

-- no element so far is equal
abbrev pub invariant-loop-element : goal.invariant-loop-element
invariant-loop-element g l =
    list_any (λ x. g.T.PartialEq.eq x l.wanted) (elements_of l.set)
    ≡ list_any (λ x. g.T.PartialEq.eq x l.wanted) l.element-iterator
