use Rattle.std.proofs.Common.{ap, map}
use Rattle.hashlink_nodes.proofs.{Names.{State, pair_of, state_of}, Chains.no_chain}
use Rattle.hashlink_nodes.proofs.chain.Chain.new.Goals as goal

pub invariant_of-result : goal.invariant_of-result
invariant_of-result g c =
    (no_chain (state_of c.new.result) c.nowhere.result c.nowhere-2.result
    (ap (λ (s : State g.row.K.Denot g.row.V.Denot). s.size) c.new.ensures)).whole

pub returns : goal.returns
returns g c =
    ap (map (λ e. pair_of e.1)) (no_chain (state_of c.new.result) c.nowhere.result c.nowhere-2.result
    (ap (λ (s : State g.row.K.Denot g.row.V.Denot). s.size) c.new.ensures)).is
