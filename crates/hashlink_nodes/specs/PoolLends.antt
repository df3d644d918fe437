-- The blocks of a ring, after a `&mut` to a value has ended.
use Rattle.std.specs.Borrow.{Fml, RattleType, Bor, MutBor, Lends}
use Rattle.hashlink_nodes.specs.{declared.node.Node.Node, declared.pool.Pool.Pool}
use Rattle.hashlink_nodes.specs.{contracts.pool.Pool.the_row, ArenaLends.altered, Kept.with_pair}

-- the blocks with p as the node's pair
abbrev pub pool_with : {K V : Type 0} → Pool K V → Node → K × V → Pool K V
pool_with c n p = record c { arena = altered c.arena n (with_pair p) }

abbrev pub LendsPoolValue : (K V : RattleType) → MutBor (Pool K.Denot V.Denot) → Node
    → Bor K.Denot × MutBor V.Denot → Fml
LendsPoolValue K V c n r = Lends (the_row K V) V c r.1 (λ w. pool_with c.now n (r.0.now, w))
