use Rattle.std.{proofs.Common.map, specs.Str.bytes_eq}
use Rattle.hashlink_uses.proofs.Appearing.{map-appearances}
use Rattle.hashlink_uses.proofs.Common.{[], ap, ◌∙◌, IfOk-weaker, first_appearances}
use Rattle.hashlink_uses.proofs.lines.distinct_lines.Goals as goal

pub returns : goal.returns
returns c =
    IfOk-weaker c.distinct.result _ _
    (λ seen is. ap (map (λ line. line.now)) is
    ∙ map-appearances bytes_eq (λ line. line.now) [] c.as_slice.result.now
    ∙ ap (λ items. first_appearances bytes_eq [] (map (λ line. line.now) items)) c.as_slice.ensures.value
    ∙ ap (first_appearances bytes_eq []) c.in_ok-lines.ensures)
    c.distinct.ensures
