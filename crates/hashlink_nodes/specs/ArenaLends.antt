-- An arena, after a `&mut` into one of its blocks has ended.
use Rattle.std.specs.Borrow.{Fml, RattleType, MutBor, Lends}
use Rattle.hashlink_nodes.specs.{Node.same_node, declared.node.Node.Node, declared.pool.links.Links.Links}
use Rattle.hashlink_nodes.specs.{declared.arena.Arena.Arena, contracts.arena.Arena.the_row}
use Rattle.hashlink_nodes.specs.Kept.{Kept, alter, with_links, with_pair}
use Rattle.hashlink_nodes.specs.contracts.pool.links.Links as links

-- the arena with f of the contents of the node's block
abbrev pub altered : {T : Type 0} → Arena T → Node → (Kept T → Kept T) → Arena T
altered a n f = record a { blocks = alter (same_node n) f a.blocks }

abbrev pub LendsLinks : (R : RattleType) → MutBor (Arena R.Denot) → Node → MutBor Links → Fml
LendsLinks R a n r = Lends (the_row R) links.the_row a r (λ l. altered a.now n (with_links l))

abbrev pub LendsPair : (R : RattleType) → MutBor (Arena R.Denot) → Node → MutBor R.Denot → Fml
LendsPair R a n r = Lends (the_row R) R a r (λ w. altered a.now n (with_pair w))
