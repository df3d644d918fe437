use Rattle.hashlink_map.proofs.Names.{rules, slice_get, ap, ◌∙◌}
use Rattle.hashlink_map.proofs.cursor.methods.CursorMut+K+V+S.prev_pair.Goals as goal

pub returns : goal.returns
returns g c =
    c.pair_at_place.ensures ∙ ap (slice_get _) (rw c.map.view_is at c.prev.ensures.number ∙ search rules)
