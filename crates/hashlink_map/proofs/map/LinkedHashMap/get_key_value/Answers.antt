use Rattle.hashlink_map.proofs.Names.{ap, sym, ◌∙◌, option_map, deref_pair, stored, lookup_entry-unplaced}
use Rattle.hashlink_map.proofs.map.LinkedHashMap.get_key_value.Goals as goal

pub returns-in_err-node-clause-found : goal.returns-in_err-node-clause-found
returns-in_err-node-clause-found g c =
    ap (option_map deref_pair) c.from_residual.ensures
    ∙ sym (lookup_entry-unplaced (g.Q.Equivalent.matches c.args.key) _ c.in_err-node.ensures.found)

pub returns-clause-found : goal.returns-clause-found
returns-clause-found g c =
    let m = c.args.self.now in
    sym (stored (g.Q.Equivalent.matches c.args.key) m m c.in_ok-node.node c.in_ok-node.ensures.found _
    c.pair_at.ensures)
