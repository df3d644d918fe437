use Rattle.hashlink_nodes.proofs.{Names.{ap, ◌∙◌, option_map, Entry, with_key}, Calls.renewed}
use Rattle.hashlink_nodes.proofs.Opening.{if_some, node_in, seal}
use Rattle.hashlink_nodes.proofs.nodes.Nodes.set_key.Goals as goal

pub invariant_of-self : goal.invariant_of-self
invariant_of-self g c =
    seal (renewed (node_in c.self.invariant c.self.view_is c.args.node c.requires)
    (λ h. with_key h c.args.key) c.replace_key.ensures.is).sound

pub returns : goal.returns
returns g c =
    let at = node_in c.self.invariant c.self.view_is c.args.node c.requires in
    let l = renewed at (λ h. with_key h c.args.key) c.replace_key.ensures.is in record {
      entries = if_some _ at.cut.looked l.entries;
      free = l.free;
      link_writes = l.link_writes;
      key =
          ap (option_map (λ (h : Entry g.row.K.Denot g.row.V.Denot). h.key)) at.shows
          ∙ c.replace_key.ensures.key;
    }
