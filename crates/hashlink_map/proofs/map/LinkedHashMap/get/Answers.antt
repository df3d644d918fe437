use Rattle.hashlink_map.proofs.Names.{ap, sym, ◌∙◌, option_map, option_copied, lookup_is, entries_of}
use Rattle.hashlink_map.proofs.map.LinkedHashMap.get.Goals as goal

pub returns-in_err-value-clause-found : goal.returns-in_err-value-clause-found
returns-in_err-value-clause-found g c =
    ap option_copied c.from_residual.ensures ∙ ap (option_map (λ e. e.1)) c.in_err-value.ensures.found
    ∙ sym (lookup_is (g.Q.Equivalent.matches c.args.key) (entries_of c.args.self.now))

pub returns-clause-found : goal.returns-clause-found
returns-clause-found g c =
    ap (option_map (λ e. e.1)) c.in_ok-value.ensures.found
    ∙ sym (lookup_is (g.Q.Equivalent.matches c.args.key) (entries_of c.args.self.now))
