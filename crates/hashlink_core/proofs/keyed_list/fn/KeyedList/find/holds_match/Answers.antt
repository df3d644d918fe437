use Rattle.hashlink_core.proofs.{Names.{◌≡◌, lookup, same_node}, Finding.answered-at}
use Rattle.hashlink_core.proofs.keyed_list.fn.KeyedList.find.holds_match.Goals as goal

pub returns : goal.returns
returns g c =
    answered-at (λ x. c.equivalent.result ≡ g.Q.Equivalent.matches c.captures.key x)
    (lookup (same_node c.args.node) c.captures.nodes.now.entries) c.entry.result.0.now c.entry.result.1.now
    c.entry.ensures c.equivalent.ensures
