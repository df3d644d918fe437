use Rattle.hashlink_set.proofs.Names.{◌∙◌, entries_of, is_some-lookup}
use Rattle.hashlink_set.proofs.set.LinkedHashSet.contains.Goals as goal

pub returns-clause-found : goal.returns-clause-found
returns-clause-found g c =
    rw (← c.self.view_is)
    (c.contains_key.ensures.found
    ∙ is_some-lookup (g.Q.Equivalent.matches c.args.value) (entries_of c.self.inside.map))
