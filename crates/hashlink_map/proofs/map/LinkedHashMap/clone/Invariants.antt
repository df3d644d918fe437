-- Clones of the pairs returned so far are inserted.
use Rattle.hashlink_map.proofs.Names.{◌≡◌, List, ◌++◌, AcceptsAll, InsertsPair, state_of, ArePairClones}
use Rattle.hashlink_map.proofs.map.LinkedHashMap.clone.Given as goal

abbrev pub invariant-loop-key : goal.invariant-loop-key
invariant-loop-key g l = record {
  seen : List (g.row.K.Denot × g.row.V.Denot);
  clones : List (g.row.K.Denot × g.row.V.Denot);
  is : l.initial.key-iterator ≡ seen ++ l.key-iterator;
  cloned : ArePairClones g.K.Clone.is_clone g.V.Clone.is_clone seen clones;
  inserted : AcceptsAll (InsertsPair g.K.PartialEq.eq) (state_of l.initial.map) clones (state_of l.map);
}
