use Rattle.hashlink_uses.proofs.Common.{◌≡◌, ◌++◌, [], drop, elements_of, first_appearances}
use Rattle.hashlink_uses.proofs.lines.distinct.Given as goal

-- the elements so far and the first appearances among the items left are together all first appearances
abbrev pub invariant-loop-item : goal.invariant-loop-item
invariant-loop-item g l =
    (elements_of l.seen
    ++ first_appearances g.T.PartialEq.eq (elements_of l.seen) (drop l.item-index l.items))
    ≡ first_appearances g.T.PartialEq.eq [] l.items
