-- A ring, after a `&mut` to one of its values has ended.
use Rattle.std.specs.{Map.{lookup, set_value}, Option.option_map_or, Borrow.{Fml, RattleType, MutBor, Lends}}
use Rattle.hashlink_nodes.specs.{declared.node.Node.Node, contracts.nodes.Nodes.the_row, Node.same_node}
use Rattle.hashlink_nodes.specs.Ring.{Ring, with_value}

-- the ring with w as the value of the node's entry
abbrev pub with_value_at : {K V : Type 0} → Ring K V → Node → V → Ring K V
with_value_at r n w =
    record r {
      entries = option_map_or (λ h. set_value (same_node n) r.entries (with_value h w))
          (lookup (same_node n) r.entries) r.entries;
    }

abbrev pub LendsValueAt : (K V : RattleType) → MutBor (Ring K.Denot V.Denot) → Node → MutBor V.Denot → Fml
LendsValueAt K V r n v = Lends (the_row K V) V r v (with_value_at r.now n)
