use Rattle.hashlink_set.proofs.Names.{◌∙◌, rules, TakesFirst, deref, elements_of}
use Rattle.std.proofs.result.Match.{if_ok_then}
use Rattle.hashlink_set.proofs.OfClones.{is_of_items, given_all}
use Rattle.hashlink_set.proofs.set.LinkedHashSet.clone.Goals as goal

pub returns-clause-made : goal.returns-clause-made
returns-clause-made g c =
    let eq = g.T.PartialEq.eq in let ts = elements_of c.args.self.now in
    if_ok_then c.of_clones.result _ _
    (λ n h. is_of_items eq g.met.T.Eq.laws g.T.Clone.is_clone (g.S.Clone.is_clone c.args.self.now.hasher) ts
    (search rules) c.in_ok-hash_builder.hash_builder (search rules) n h.0 h.1
    (given_all (TakesFirst deref) (λ l. l) (λ l r k step. step) c.iter.result h.0 h.2
    ∙ c.iter.ensures.rest) h.3 h.4) c.of_clones.ensures.made
