use Rattle.hashlink_set.proofs.{Names.{option_copied, ap, ◌∙◌, option_map, entries_of}, Lookups.element-found}
use Rattle.hashlink_set.proofs.set.LinkedHashSet.get.Goals as goal

pub returns-in_err-stored-clause-found : goal.returns-in_err-stored-clause-found
returns-in_err-stored-clause-found g c =
    rw (← c.self.view_is)
    (ap option_copied c.from_residual.ensures ∙ ap (option_map (λ e. e.0)) c.in_err-stored.ensures.found
    ∙ element-found (entries_of c.self.inside.map) (g.Q.Equivalent.matches c.args.value))

pub returns-clause-found : goal.returns-clause-found
returns-clause-found g c =
    rw (← c.self.view_is)
    (ap (option_map (λ e. e.0)) c.in_ok-stored.ensures.found
    ∙ element-found (entries_of c.self.inside.map) (g.Q.Equivalent.matches c.args.value))
