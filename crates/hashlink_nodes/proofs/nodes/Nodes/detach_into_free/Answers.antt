use Rattle.hashlink_nodes.proofs.{Names.{ap, ◌∙◌, sym, arith, option_map, pair_of}, Calls.removed}
use Rattle.hashlink_nodes.proofs.{Rings.held_out, Opening.{fits, node_in, seal}}
use Rattle.hashlink_nodes.proofs.nodes.Nodes.detach_into_free.Goals as goal

pub detach-requires : goal.detach-requires
detach-requires g c = fits c.self.invariant c.self.view_is c.args.node c.requires

pub invariant_of-self : goal.invariant_of-self
invariant_of-self g c =
    seal (removed (node_in c.self.invariant c.self.view_is c.args.node c.requires) c.detach.ensures
    c.take-pair.ensures.is c.store_next.ensures.stored).sound

pub returns : goal.returns
returns g c =
    let at = node_in c.self.invariant c.self.view_is c.args.node c.requires in
    let l = removed at c.detach.ensures c.take-pair.ensures.is c.store_next.ensures.stored in record {
      pair =
          ap (option_map pair_of) (at.shows ∙ at.here.holds ∙ sym (held_out at.here c.detach.ensures))
          ∙ c.take-pair.ensures.was;
      entries = l.entries;
      free = l.free;
      link_writes = l.link_writes ∙ omega arith;
    }
