use Rattle.hashlink_table.proofs.table.Table.remove_counted.Given as given
use Rattle.hashlink_table.proofs.table.Table.remove_counted.Goals as goal
use Rattle.hashlink_table.proofs.Names.{◌∷◌, ap, refl, subst, IsPermutation, Contents}
use Rattle.hashlink_table.proofs.{Names.nodes_in, Sound.sound-take, Views.{can_ask, no_cost, search_cost}}
use Rattle.hashlink_table.proofs.table.Table.remove_counted.Goals.{After-take}

pub seek-requires-clause-arranged : goal.seek-requires-clause-arranged
seek-requires-clause-arranged g c = c.self.invariant.arranged

pub seek-requires-clause-callable : goal.seek-requires-clause-callable
seek-requires-clause-callable g c =
    can_ask c.self.invariant c.self.view_is c.args.hash _ c.requires.callable c.if-self-eq0.false

pub seek-requires-clause-telling : goal.seek-requires-clause-telling
seek-requires-clause-telling g c =
    λ h node there. c.requires.telling h node (rw (← c.self.view_is) there)

pub returns-in_err-found-clause-removes : goal.returns-in_err-found-clause-removes
returns-in_err-found-clause-removes g c =
    rw c.from_residual.ensures (record {
      removed = tt;
      none = rw (← c.self.view_is) c.in_err-found.ensures.none;
      unchanged = refl;
      room = refl;
    })

pub returns-in_err-found-clause-cost : goal.returns-in_err-found-clause-cost
returns-in_err-found-clause-cost g c =
    search_cost c.self.invariant c.self.view_is c.args.hash _ _ c.if-self-eq0.false c.seek.ensures.cost

pub take-requires-clause-arranged : goal.take-requires-clause-arranged
take-requires-clause-arranged g c = c.self.invariant.arranged

-- the node that was found is removed
gone : (g : given.Over) (c : After-take g)
    → IsPermutation (nodes_in c.self.inside.slots.cells)
    (record { hash = c.args.hash; node = c.in_ok-found.found.node } ∷ nodes_in c.take.new.slots.cells)
gone g c = rw c.in_ok-found.ensures.found.0 at c.take.ensures.nodes

pub invariant_of-self : goal.invariant_of-self
invariant_of-self g c =
    sound-take c.take.new.slots.cells c.take.new.slots.heads _ c.self.invariant c.take.ensures.len
    c.take.ensures.arranged (gone g (goal.at.invariant_of-self g c).After-take)

pub returns-clause-removes : goal.returns-clause-removes
returns-clause-removes g c = record {
  removed = (
    subst (λ (u : Contents g.row.N.Denot). IsPermutation u.nodes
        (record { hash = c.args.hash; node = c.in_ok-found.found.node } ∷ nodes_in c.take.new.slots.cells))
        c.self.view_is
        (gone g (goal.at.returns-clause-removes g c).After-take),
    c.in_ok-found.ensures.found.1,
  );
  none = tt;
  unchanged = tt;
  room = ap (λ (u : Contents g.row.N.Denot). u.room) c.self.view_is;
}

pub returns-clause-cost : goal.returns-clause-cost
returns-clause-cost g c =
    search_cost c.self.invariant c.self.view_is c.args.hash _ _ c.if-self-eq0.false c.seek.ensures.cost

pub returns-then-self-eq0-clause-cost : goal.returns-then-self-eq0-clause-cost
returns-then-self-eq0-clause-cost g c = no_cost c.self.invariant c.self.view_is c.args.hash _
