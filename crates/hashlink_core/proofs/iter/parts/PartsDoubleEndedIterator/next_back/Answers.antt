use Rattle.hashlink_core.proofs.{Names.{[], ◌∷◌, ◌++◌, map, map-append, ap, sym, ◌∙◌}, Walk.progress-back}
use Rattle.std.specs.Map.Iter.{deref}
use Rattle.hashlink_core.proofs.iter.parts.PartsDoubleEndedIterator.next_back.Goals as goal

pub returns-clause-steps : goal.returns-clause-steps
returns-clause-steps g c =
    sym c.self.view_is ∙ ap (map g.P.Part.part) c.in_ok-key.ensures.steps
    ∙ map-append g.P.Part.part c.next_back.new.self _
    ∙ ap (λ x. map g.P.Part.part c.next_back.new.self ++ x ∷ []) (sym c.of.ensures)

pub returns-clause-goes : goal.returns-clause-goes
returns-clause-goes g c = progress-back deref c.of.result (returns-clause-steps g c)
