use Rattle.hashlink_map.proofs.Names.{ap, sym, ◌∙◌, is_some, is_some-map}
use Rattle.hashlink_map.proofs.map.LinkedHashMap.contains_key.Goals as goal

pub returns-clause-found : goal.returns-clause-found
returns-clause-found g c =
    c.is_some.ensures ∙ sym (is_some-map (λ v. v.now) c.get.result) ∙ ap is_some c.get.ensures.found
