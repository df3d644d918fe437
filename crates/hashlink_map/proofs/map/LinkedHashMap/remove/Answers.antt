use Rattle.hashlink_map.proofs.Names.{ap, sym, ◌∙◌, option_map, lookup_is, entries_of}
use Rattle.hashlink_map.proofs.map.LinkedHashMap.remove.Goals as goal

pub returns-in_err-value-clause-value : goal.returns-in_err-value-clause-value
returns-in_err-value-clause-value g c =
    c.from_residual.ensures ∙ ap (option_map (λ e. e.1)) c.in_err-value.ensures.removes.answer
    ∙ sym (lookup_is (g.Q.Equivalent.matches c.args.key) (entries_of c.args.self.now))

pub returns-clause-value : goal.returns-clause-value
returns-clause-value g c =
    ap (option_map (λ e. e.1)) c.in_ok-value.ensures.removes.answer
    ∙ sym (lookup_is (g.Q.Equivalent.matches c.args.key) (entries_of c.args.self.now))
