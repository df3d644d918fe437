use Rattle.hashlink_map.proofs.Names.{ap, cursor_node, IsPlace-prop}
use Rattle.std.proofs.lemmas.Iterator.Adapters.{option_map_id}
use Rattle.hashlink_map.proofs.cursor.methods.CursorMut+K+V+S.with_previous.Goals as goal

-- whatever proves that its place is still in the list
pub returns : goal.returns
returns g c =
    let s = c.args.self.now in (
      ap (λ p. record c.args.self { now = record s { within = p } })
          (IsPlace-prop s.map.now.nodes (cursor_node s) _ _),
      rw (← c.map.view_is, option_map_id) c.prev-previous.ensures,
    )
