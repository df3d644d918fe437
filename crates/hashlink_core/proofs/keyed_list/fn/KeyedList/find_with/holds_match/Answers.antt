use Rattle.hashlink_core.proofs.{Names.{refl, FnReturnsAt, lookup, same_node}, Finding.answered-at}
use Rattle.hashlink_core.proofs.keyed_list.fn.KeyedList.find_with.holds_match.Goals as goal

pub returns : goal.returns
returns g c =
    answered-at (λ x. FnReturnsAt g.F.Fn c.captures.is_match x c.is_match.result)
    (lookup (same_node c.args.node) c.captures.nodes.now.entries) c.entry.result.0.now c.entry.result.1.now
    c.entry.ensures
    (record { shown = c.entry.result.0; shows = refl; says = record { met = c.is_match.ensures } })
