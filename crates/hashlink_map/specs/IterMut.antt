-- Iterators that lend values for writing, with the keys and without, as contracts see them.
use Rattle.std.specs.Borrow.{MutBor}
use Rattle.hashlink_map.specs.Bounds.{EqGhosts, HashGhosts, HasherGhosts, BuilderGhosts, NodeGhosts}
use Rattle.hashlink_map.specs.declared.iter_mut.IterMut.{IterMut}
use Rattle.hashlink_map.specs.WritingWalk.{WritingWalk, walk_in}
use Rattle.hashlink_core.specs.Keyed.{Keyed}

module _ {K V S T : Type 0} {g : EqGhosts K} {h : HashGhosts K} {b : BuilderGhosts S T}
    {w : HasherGhosts T}
    {N L : Type 0} {n : NodeGhosts N} where
  -- the map that it borrows
  abbrev pub walk_map : IterMut K V S N L T g h b w n → MutBor (Keyed K V S)
  walk_map i = i.map

  abbrev pub walk_state : IterMut K V S N L T g h b w n → WritingWalk K V S
  walk_state i = walk_in n.node i.map.now i.places
