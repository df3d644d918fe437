use Rattle.hashlink_nodes.proofs.Names.{ap, ◌∙◌, refl, option_map, Entry, pair_of}
use Rattle.hashlink_nodes.proofs.{Lending.lent, Opening.node_in, Opening.seal}
use Rattle.hashlink_nodes.proofs.nodes.Nodes.entry_mut.Goals as goal

pub invariant_of-self-lent : goal.invariant_of-self-lent
invariant_of-self-lent g c = λ w.
    seal (lent c.self.invariant c.self.view_is c.args.node c.requires _ c.entry_mut.ensures.pair w).sound

pub returns : goal.returns
returns g c =
    let pair = c.entry_mut.ensures.pair in
    let at = node_in c.self.invariant c.self.view_is c.args.node c.requires in (
      (refl, λ w. (lent c.self.invariant c.self.view_is c.args.node c.requires _ pair w).view),
      record {
        lends = tt;
        pair = ap (option_map (λ (h : Entry g.row.K.Denot g.row.V.Denot). pair_of h)) at.shows ∙ pair;
      },
    )
