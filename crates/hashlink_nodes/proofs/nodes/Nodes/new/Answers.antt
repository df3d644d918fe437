use Rattle.hashlink_nodes.proofs.Names.{[], ap, State, entries_of}
use Rattle.hashlink_nodes.proofs.nodes.Nodes.new.Goals as goal

pub returns : goal.returns
unfolding entries_of
returns g c =
    let S : Type 0 = State g.row.K.Denot g.row.V.Denot in
    ap (λ (s : S). record { entries = []; free = []; link_writes = s.link_writes }) c.new.ensures
